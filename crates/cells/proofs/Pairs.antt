-- A cell's pair of weights, without a branch on its letter; and the pairs of a list.
use Prim.Native.Nat.{ℕ, zero, suc, ◌+◌, ◌-◌, ◌*◌, ◌%◌, ◌≤◌, ◌<◌}
use borrow.Author.Tests.{eqb-true, eqb-false}
use lib.Dec.{eqb}
use lib.ListN.{length, get_or, set}
use lib.Seq.{get_or-set_same, get_or-set_other}
use mathlib.Core.Bool.{Bool, true, false, cond}
use mathlib.Core.List.{List, [], ◌∷◌}
use mathlib.Core.Logic.{◌≢◌}
use mathlib.Core.Path.{◌≡◌, refl, sym, ap, ap₂, ◌∙◌, subst}
use native.Mathlib.Nat.{mul-le-mul_left, not-suc-le-zero}
use native.Mathlib.Omega.{arith}
use Rattle.meaning.specs.Numbers.{big_endian}
use Rattle.meaning.specs.Block.{Cell, cell_at}
use Rattle.meaning.specs.Charge.{Letter, against}
use Rattle.meaning.specs.Refusals.{bad_cell}
use Rattle.layout.proofs.Laws.{good}
use Rattle.sums.specs.Sums.{pair_at, pair_of, LightPairs}

-- the weight where the letter is 1, else 0
pub times_digit : (x l : ℕ) → x * (l % 2) ≤ x
times_digit x l = let h : l % 2 ≤ 1 = omega arith in omega (arith, mul-le-mul_left x h)

-- neither part of a pair is above its weight
pub pair_light : (lim x a : ℕ) → x ≤ lim → (l : Letter) → pair_at (x * (a % 2) ∷ (x - x * (a % 2)) ∷ []) l ≤ lim
pair_light lim x a h false = omega (arith, times_digit x a)
pair_light lim x a h true = omega arith

pair_good : (c : Cell) → bad_cell c ≡ false → c.weight * (c.letter % 2) ∷ (c.weight - c.weight * (c.letter % 2)) ∷ [] ≡ pair_of c
unfolding against
pair_good c h = let g = good c h in go c.letter c.weight g.letter-known g.hole_weightless
  where
    go : (a b : ℕ) → a ≤ 2 → (a ≡ 2 → b ≡ 0) → b * (a % 2) ∷ (b - b * (a % 2)) ∷ [] ≡ cond (eqb a 1) b 0 ∷ cond (eqb a 0) b 0 ∷ []
    go zero b l e = ap₂ (λ (x y : ℕ). x ∷ y ∷ []) (omega arith) (omega arith)
    go (suc zero) b l e = ap₂ (λ (x y : ℕ). x ∷ y ∷ []) (omega arith) (omega arith)
    go (suc (suc zero)) b l e = let z : b ≡ 0 = e refl in ap₂ (λ (x y : ℕ). x ∷ y ∷ []) (omega arith) (omega arith)
    go (suc (suc (suc a))) b l e = absurd (omega arith)

-- the pair of cell i, by its letter and its weight
pub pair_is : (cells : List ℕ) (size i a b : ℕ) → bad_cell (cell_at size cells i) ≡ false
    → a ≡ get_or cells (size * i) 0 → b ≡ big_endian (size - 1) cells (size * i + 1)
    → b * (a % 2) ∷ (b - b * (a % 2)) ∷ [] ≡ pair_of (cell_at size cells i)
unfolding cell_at
pair_is cells size i a b h ea eb = ap₂ (λ (x y : ℕ). y * (x % 2) ∷ (y - y * (x % 2)) ∷ []) ea eb ∙ pair_good (cell_at size cells i) h

-- the first n pairs are those that f gives, and none is above the limit
pub record PairsTo (w : List (List ℕ)) (n : ℕ) (f : ℕ → List ℕ) (lim : ℕ) : Type 0 where
  pub each : (i : ℕ) → i < n → get_or w i [] ≡ f i
  pub light : LightPairs w n lim

pub pairs_none : (w : List (List ℕ)) (f : ℕ → List ℕ) (lim : ℕ) → PairsTo w 0 f lim
pairs_none w f lim = record { each = λ i l. absurd (not-suc-le-zero l); light = λ i l. absurd (not-suc-le-zero l) }

pub pairs_more : (w : List (List ℕ)) (n : ℕ) (f : ℕ → List ℕ) (lim : ℕ) (x : List ℕ) → n < length w → PairsTo w n f lim
    → x ≡ f n → ((l : Letter) → pair_at x l ≤ lim) → PairsTo (set w n x) (n + 1) f lim
pairs_more w n f lim x lt h e small = record { each = λ i l. (go i l (eqb i n) refl).0; light = λ i l. (go i l (eqb i n) refl).1 }
  where
    go : (i : ℕ) → i < n + 1 → (b : Bool) → eqb i n ≡ b
        → (get_or (set w n x) i [] ≡ f i) × ((l : Letter) → pair_at (get_or (set w n x) i []) l ≤ lim)
    go i l true t =
        let z : i ≡ n = eqb-true i n t in
        let same : get_or (set w n x) i [] ≡ x = ap (λ (k : ℕ). get_or (set w n x) k []) z ∙ get_or-set_same w n x [] lt in
        (same ∙ e ∙ ap f (sym z), λ m. subst (λ (y : List ℕ). pair_at y m ≤ lim) (sym same) (small m))
    go i l false t =
        let ne : i ≢ n = eqb-false i n t in
        let below : i < n = omega arith in
        let same : get_or (set w n x) i [] ≡ get_or w i [] = get_or-set_other w n i x [] ne in
        (same ∙ h.each i below, λ m. subst (λ (y : List ℕ). pair_at y m ≤ lim) (sym same) (h.light i below m))
