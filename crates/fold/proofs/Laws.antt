-- Folding follows the reads one by one: a read that changes its side turns the folded index by its mask.
use Prim.Native.Nat.{ℕ, zero, suc, ◌+◌, ◌*◌, ◌^◌, ◌≤◌, ◌<◌}
use borrow.Author.Tests.{eqb-true, eq-eqb, ne_eqb}
use lib.Bits.{bit_xor, xor_zero_r, xor_lt}
use lib.Dec.{eqb}
use lib.ListN.{length, get_or, take, drop, length-append}
use lib.Pow.{pow_pos}
use lib.Seq.{take-suc, split_at, take-length}
use mathlib.Core.Bool.{Bool, true, false, cond, not, ◌&&◌, ◌||◌, or-true, or-false}
use mathlib.Core.List.{List, [], ◌∷◌, ◌++◌, tail}
use mathlib.Core.Path.{◌≡◌, refl, sym, ap, ◌∙◌, ap₂, subst}
use native.Mathlib.Nat.{le_refl, not-suc-le-zero, le_of_suc-le-suc}
use native.Mathlib.Omega.{arith}
use Rattle.meaning.specs.Numbers.{bit, sum_to, keep, has}
use Rattle.meaning.specs.Division.{Division, all_zero}
use Rattle.meaning.specs.Table.{pattern}
use Rattle.meaning.specs.Rule.{index_of, index_at}
use Rattle.meaning.proofs.Lists.{Distinct, distinct_keep, has-append, has-keep, keep_append, and_right}
use Rattle.meaning.proofs.Index.{index_at_ext, spread_digit, spread-out}
use Rattle.fold.specs.Turn.{side_at, fold_to, shared_to, mask_of, turn_at}
use Rattle.fold.proofs.Places.{ne_of_has, not_before}
use Rattle.fold.proofs.Digits.{Turned, index_at_turned}

module _ (f : ℕ → Bool) where
  abbrev shares : List ℕ → ℕ → Bool
  shares reads i = f (get_or reads i 0)

  pub shared_to_lem : (reads : List ℕ) (i : ℕ) → i ≤ length reads → shared_to (shares reads) i ≡ length (keep f (take i reads))
  unfolding sum_to
  shared_to_lem reads zero l = refl
  shared_to_lem reads (suc i) l =
      ap (λ (n : ℕ). n + bit (shares reads i)) (shared_to_lem reads i (omega arith))
      ∙ sym (ap (λ (rs : List ℕ). length (keep f rs)) (take-suc reads i 0 l)
      ∙ ap length (keep_append f (take i reads) (get_or reads i 0 ∷ []))
      ∙ length-append (keep f (take i reads)) (keep f (get_or reads i 0 ∷ []))
      ∙ ap (λ (n : ℕ). length (keep f (take i reads)) + n) (one (f (get_or reads i 0)) (get_or reads i 0)))
    where
      one : (b : Bool) (r : ℕ) → length (cond b (r ∷ []) []) ≡ bit b
      one true r = refl
      one false r = refl

  pub shared-count : (reads : List ℕ) → shared_to (shares reads) (length reads) ≡ length (keep f reads)
  shared-count reads = shared_to_lem reads (length reads) (le_refl (length reads)) ∙ ap (λ (rs : List ℕ). length (keep f rs)) (take-length reads)

  -- a read that changes its side turns the index of the shared reads by its mask
  pub turn_step : (reads : List ℕ) → Distinct (keep f reads) → (i : ℕ) → i < length reads → (d e : Division) → Turned (get_or reads i 0) d e
      → index_at (keep f reads) e ≡ bit_xor (index_at (keep f reads) d) (turn_at (shares reads) (length reads) i)
  unfolding turn_at
  turn_step reads u i l d e h = go (f r) refl
    where
      r : ℕ
      r = get_or reads i 0

      xs : List ℕ
      xs = keep f (take i reads)

      ys : List ℕ
      ys = keep f (drop (suc i) reads)

      split : f r ≡ true → keep f reads ≡ xs ++ (r ∷ ys)
      split t = ap (keep f) (split_at reads i 0 l) ∙ keep_append f (take i reads) (r ∷ drop (suc i) reads) ∙ ap (λ (b : Bool). xs ++ cond b (r ∷ ys) ys) t

      go : (b : Bool) → f r ≡ b
          → index_at (keep f reads) e ≡ bit_xor (index_at (keep f reads) d) (cond b (mask_of (shared_to (shares reads) i) (shared_to (shares reads) (length reads))) 0)
      go false t =
          index_at_ext (keep f reads) e d (λ q m. h.same q (ne_of_has q r (keep f reads) m (has-keep f r reads ∙ ap (λ (b : Bool). b && has r reads) t)))
          ∙ sym (xor_zero_r (index_at (keep f reads) d))
      go true t = rw (shared_to_lem reads i (omega arith), shared-count reads, split t) (index_at_turned r xs ys d e h (subst Distinct (split t) u))

-- the sides that entry k gives the first i reads, every other on side 0
front : List ℕ → ℕ → ℕ → Division
front reads k i q = cond (has q (take i reads)) (pattern reads k q) false

pattern-side : (reads : List ℕ) → Distinct reads → (k i : ℕ) → i < length reads → pattern reads k (get_or reads i 0) ≡ side_at k i
pattern-side [] u k i l = absurd (not-suc-le-zero l)
pattern-side (r ∷ rs) u k zero l = spread-out rs k r u.0
pattern-side (r ∷ rs) u k (suc i) l = spread_digit rs u.1 k i (le_of_suc-le-suc l)

module _ (reads : List ℕ) (u : Distinct reads) (k i : ℕ) (l : i < length reads) where
  abbrev next : ℕ
  next = get_or reads i 0

  has_next : (q : ℕ) → has q (take (suc i) reads) ≡ (has q (take i reads) || eqb q next)
  has_next q = ap (has q) (take-suc reads i 0 l) ∙ has-append q (take i reads) (next ∷ []) ∙ ap (λ (b : Bool). has q (take i reads) || b) (or-false (eqb q next))

  -- the next read on side 0: nothing changes
  front_kept : side_at k i ≡ false → (q : ℕ) → front reads k (suc i) q ≡ front reads k i q
  unfolding front
  front_kept s q = ap (λ (b : Bool). cond b (pattern reads k q) false) (has_next q) ∙ go (has q (take i reads)) (eqb q next) refl
    where
      go : (a b : Bool) → eqb q next ≡ b → cond (a || b) (pattern reads k q) false ≡ cond a (pattern reads k q) false
      go true b e = refl
      go false true e = ap (pattern reads k) (eqb-true q next e) ∙ pattern-side reads u k i l ∙ s
      go false false e = refl

  -- on side 1: it has changed its side
  front_turned : side_at k i ≡ true → Turned next (front reads k i) (front reads k (suc i))
  unfolding front
  front_turned s = record {
    same = λ q n. ap (λ (b : Bool). cond b (pattern reads k q) false) (has_next q ∙ ap (λ (b : Bool). has q (take i reads) || b) (ne_eqb q next n) ∙ or-false (has q (take i reads)));
    turned =
        ap (λ (b : Bool). cond b (pattern reads k next) false) (has_next next ∙ ap (λ (b : Bool). has next (take i reads) || b) (eq-eqb next next refl) ∙ or-true (has next (take i reads)))
        ∙ pattern-side reads u k i l ∙ s
        ∙ sym (ap (λ (b : Bool). not (cond b (pattern reads k next) false)) (not_before reads u i l));
  }

index_zero : (rs : List ℕ) → index_of rs all_zero ≡ 0
index_zero [] = refl
index_zero (r ∷ rs) = ap (λ (n : ℕ). 0 + 2 * n) (index_zero rs)

-- the folded index of entry k is the index of the shared reads, as entry k has them
pub fold_is : (reads : List ℕ) → Distinct reads → (f : ℕ → Bool) (turn : List ℕ) → ((i : ℕ) → i < length reads → get_or turn i 0 ≡ turn_at (λ q. f (get_or reads q 0)) (length reads) i)
    → (k : ℕ) → fold_to turn k (length reads) ≡ index_at (keep f reads) (pattern reads k)
unfolding fold_to front
fold_is reads u f turn h k =
    go (length reads) (le_refl (length reads))
    ∙ index_at_ext (keep f reads) (front reads k (length reads)) (pattern reads k)
    (λ q m. ap (λ (b : Bool). cond b (pattern reads k q) false)
    (ap (has q) (take-length reads) ∙ and_right (f q) (has q reads) (sym (has-keep f q reads) ∙ m)))
  where
    go : (i : ℕ) → i ≤ length reads → fold_to turn k i ≡ index_at (keep f reads) (front reads k i)
    go zero l = sym (index_zero (tail (keep f reads)))
    go (suc i) l = on (side_at k i) refl (go i (omega arith))
      where
        on : (s : Bool) → side_at k i ≡ s → fold_to turn k i ≡ index_at (keep f reads) (front reads k i)
            → cond s (bit_xor (fold_to turn k i) (get_or turn i 0)) (fold_to turn k i) ≡ index_at (keep f reads) (front reads k (suc i))
        on true e ih =
            ap₂ bit_xor ih (h i l)
            ∙ sym (turn_step f reads (distinct_keep f reads u) i l (front reads k i) (front reads k (suc i)) (front_turned reads u k i l e))
        on false e ih = ih ∙ sym (index_at_ext (keep f reads) (front reads k (suc i)) (front reads k i) (λ q m. front_kept reads u k i l e q))

-- and it is small where the masks are
pub fold_lt : (turn : List ℕ) (k b p : ℕ) → ((i : ℕ) → i < p → get_or turn i 0 < 2 ^ b) → fold_to turn k p < 2 ^ b
unfolding fold_to
fold_lt turn k b zero h = pow_pos b
fold_lt turn k b (suc i) h = go (side_at k i) (fold_lt turn k b i (λ q l. h q (omega arith)))
  where
    go : (s : Bool) → fold_to turn k i < 2 ^ b → cond s (bit_xor (fold_to turn k i) (get_or turn i 0)) (fold_to turn k i) < 2 ^ b
    go true l = xor_lt b (fold_to turn k i) (get_or turn i 0) l (h i (omega arith))
    go false l = l
