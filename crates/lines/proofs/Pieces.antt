-- Pieces put into a text, one behind the other. Assumes nothing.
use Prim.Native.Nat.{ℕ, ◌+◌, ◌≤◌, ◌<◌}
use mathlib.Core.Path.{◌≡◌, refl, sym, ap, subst, ◌∙◌}
use mathlib.Core.List.{List, [], ◌∷◌, ◌++◌, append-nil, append_assoc, map, map-append}
use native.Mathlib.Nat.{add-zero}
use native.Mathlib.Numerals.{add-one}
use native.Mathlib.Omega.{arith}
use lib.ListN.{length, take, drop, get_or, length-append, length-take, length-drop, take-append-drop}
use lib.Seq.{take_at, drop_at, drop-drop, length-take-le, take-suc}
use Rattle.lines.specs.Line.{decimal, mark, run_text}
use Rattle.lines.specs.Put.{Put}
use Rattle.lines.specs.Page.{Puts}
use Rattle.lines.specs.declared.Page.{Page}

module _ {t p u : List ℕ} {at e : ℕ} (h : Put t at p u e) where
  pub put-length : length u ≡ length t
  put-length = ap length h.holds ∙ simp (length-append, length-take, length-drop) (omega (arith, h.fits))

  pub put_as : (q : List ℕ) → p ≡ q → Put t at q u e
  put_as q s = subst (λ (x : List ℕ). Put t at x u e) s h

pub put_none : (t : List ℕ) (at : ℕ) → at ≤ length t → Put t at [] t at
put_none t at h = record { fits = omega arith; ends = omega arith; holds = rw (add-zero, take-append-drop) }

-- of a front, a piece and a rest: what stands before the piece's end, and what after it
module _ (f p r : List ℕ) (at : ℕ) (e : length f ≡ at) where
  both : length (f ++ p) ≡ at + length p
  both = omega (arith, length-append f p)

  take_behind : take (at + length p) (f ++ (p ++ r)) ≡ f ++ p
  take_behind = rw (← append_assoc) (take_at (f ++ p) r (at + length p) both)

  drop-behind : (n : ℕ) → drop (at + length p + n) (f ++ (p ++ r)) ≡ drop n r
  drop-behind n = rw (← append_assoc, ← drop-drop) (ap (drop n) (drop_at (f ++ p) r (at + length p) both))

-- a piece, and another where it ends, are one piece
pub joined : {t p u q v : List ℕ} {at e f : ℕ} → Put t at p u e → Put u e q v f → Put t at (p ++ q) v f
joined {t} {p} {u} {q} {v} {at} {e} {f} h k =
    let l : length (take at t) ≡ at = length-take-le at t (omega (arith, h.fits)) in
    let n : length (p ++ q) ≡ length p + length q = length-append p q in
    let r = drop (at + length p) t in
    let s : at + length (p ++ q) ≡ at + length p + length q = omega arith in
    record {
      fits = omega (arith, h.fits, h.ends, k.fits, put-length h);
      ends = omega (arith, h.ends, k.ends);
      holds =
          k.holds
          ∙ rw (h.holds, h.ends, take_behind (take at t) p r at l, drop-behind (take at t) p r at l, s, drop-drop) (simp append_assoc);
    }

-- nothing is put
pub puts_none : (page : Page) → page.at ≤ length page.text.now → Puts page [] page
puts_none page h = record { same_text = refl; put = put_none page.text.now page.at h }

module _ {page after : Page} {piece : List ℕ} (h : Puts page piece after) where
  pub puts-length : length after.text.now ≡ length page.text.now
  puts-length = put-length h.put

  pub puts_ends : after.at ≡ page.at + length piece
  puts_ends = h.put.ends

  pub puts_as : (q : List ℕ) → piece ≡ q → Puts page q after
  puts_as q s = record { same_text = h.same_text; put = put_as h.put q s }

-- one byte by another name of it
pub byte_as : {page after : Page} {b : ℕ} (d : ℕ) → b ≡ d → Puts page (b ∷ []) after → Puts page (d ∷ []) after
byte_as d s h = puts_as h (d ∷ []) (ap (λ (x : ℕ). x ∷ []) s)

-- a piece, and another behind it, are one piece
pub then_puts : {page mid after : Page} {p q : List ℕ} → Puts page p mid → Puts mid q after → Puts page (p ++ q) after
then_puts h k = record { same_text = k.same_text ∙ h.same_text; put = joined h.put k.put }

run-append : (s r : List ℕ) → run_text (s ++ r) ≡ run_text s ++ run_text r
unfolding run_text
run-append [] r = refl
run-append (x ∷ s) r = rw (run-append s r, append_assoc)

-- one more mark, and one more number of a run
module _ (s : List ℕ) (i : ℕ) (l : i < length s) where
  one_more : take (i + 1) s ≡ take i s ++ (get_or s i 0 ∷ [])
  one_more = rw (add-one, take-suc s i 0)

  marks_more : map mark (take (i + 1) s) ≡ map mark (take i s) ++ (mark (get_or s i 0) ∷ [])
  marks_more = rw (one_more, map-append)

  run_more : run_text (take (i + 1) s) ≡ run_text (take i s) ++ (32 ∷ decimal (get_or s i 0))
  unfolding run_text
  run_more = rw (one_more, run-append, append-nil)

  module _ {page mid after : Page} where
    pub mark_puts : Puts page (map mark (take i s)) mid → Puts mid (mark (get_or s i 0) ∷ []) after → Puts page (map mark (take (i + 1) s)) after
    mark_puts h k = puts_as (then_puts h k) (map mark (take (i + 1) s)) (sym marks_more)

    pub number_puts : {last : Page} → Puts page (run_text (take i s)) mid → Puts mid (32 ∷ []) after → Puts after (decimal (get_or s i 0)) last
        → Puts page (run_text (take (i + 1) s)) last
    number_puts h k n = puts_as (then_puts h (then_puts k n)) (run_text (take (i + 1) s)) (sym run_more)
