-- Sides by their numbers, and the charging leaf's loop.
use Prim.Native.Nat.{ℕ, ◌+◌, ◌<◌}
use borrow.Author.Tests.{eq-eqb, ne_eqb}
use mathlib.Core.Bool.{true, false}
use mathlib.Core.List.{List, [], ◌∷◌}
use mathlib.Core.Logic.{◌≢◌}
use mathlib.Core.Path.{◌≡◌, refl, sym, ap, ap₂, ◌∙◌}
use native.Mathlib.Numerals.{add-one}
use native.Mathlib.Omega.{arith}
use Rattle.meaning.specs.Numbers.{sum_to}
use Rattle.meaning.proofs.Totals.{sum_zero}
use Rattle.sums.specs.Sums.{array_of, weight_of, sums_with, side_of}

pub side_zero : (n : ℕ) → n ≡ 0 → side_of n ≡ false
side_zero n e = ne_eqb n 1 (λ z. omega (arith, z))

pub side_one : (n : ℕ) → n < 2 → n ≢ 0 → side_of n ≡ true
side_one n l ne = eq-eqb n 1 (omega arith)

pub leaf_none : (f : ℕ → ℕ) → 0 ≡ sum_to 0 f
unfolding sum_to
leaf_none f = refl

pub leaf_more : (n : ℕ) (f : ℕ → ℕ) → sum_to (n + 1) f ≡ sum_to n f + f n
unfolding sum_to
leaf_more n f = rw add-one

pub leaf_end : (w : List (List ℕ)) (p a b : ℕ) → a ≡ sum_to p (λ i. weight_of w i false) → b ≡ sum_to p (λ i. weight_of w i true)
    → (a ∷ b ∷ []) ∷ (0 ∷ 0 ∷ []) ∷ [] ≡ array_of (sums_with w p (λ i. false))
unfolding sums_with
leaf_end w p a b ea eb =
    let z : 0 ≡ sum_to p (λ i. 0) = sym (sum_zero p (λ i l. refl)) in
    ap₂ (λ (x y : ℕ). (x ∷ y ∷ []) ∷ (0 ∷ 0 ∷ []) ∷ []) ea eb
    ∙ ap (λ (z : ℕ). (sum_to p (λ i. weight_of w i false) ∷ sum_to p (λ i. weight_of w i true) ∷ []) ∷ (z ∷ z ∷ []) ∷ []) z
