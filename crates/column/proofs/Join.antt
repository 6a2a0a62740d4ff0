-- The pairs of a column's active reads give the meaning's four sums.
use Prim.Native.Nat.{ℕ, zero, suc, ◌+◌, ◌<◌}
use lib.ListN.{length, get_or}
use mathlib.Core.Bool.{cond, beq}
use mathlib.Core.List.{List, [], ◌∷◌}
use mathlib.Core.Path.{◌≡◌, refl, sym, ap, ◌∙◌, fun_ext}
use native.Mathlib.Nat.{le_of_suc-le-suc, not-suc-le-zero}
use native.Mathlib.Omega.{arith}
use Rattle.fold.specs.Turn.{side_at}
use Rattle.meaning.specs.Numbers.{sum_to}
use Rattle.meaning.specs.Block.{Matrix}
use Rattle.meaning.specs.Active.{read, at}
use Rattle.meaning.specs.Closing.{active_reads}
use Rattle.meaning.specs.Division.{Side, Division}
use Rattle.meaning.specs.Charge.{Letter, against, W}
use Rattle.meaning.specs.Table.{pattern}
use Rattle.meaning.proofs.Totals.{sum_ext}
use Rattle.meaning.proofs.Lists.{Distinct, sum_over}
use Rattle.meaning.proofs.Closing.{Placed, distinct_active, sums_active}
use Rattle.meaning.proofs.Index.{spread_digit, spread-out}
use Rattle.sums.specs.Sums.{weight_of, sums_with}
use Rattle.column.proofs.Moves.{sums_with_ext}

sum_head : (n : ℕ) (f : ℕ → ℕ) → sum_to (suc n) f ≡ f 0 + sum_to n (λ i. f (suc i))
unfolding sum_to
sum_head zero f = omega arith
sum_head (suc n) f = omega (arith, sum_head n f)

-- a sum over a list is the sum over its places
pub sum_places : (xs : List ℕ) (f : ℕ → ℕ) → sum_over xs f ≡ sum_to (length xs) (λ i. f (get_or xs i 0))
unfolding sum_to
sum_places [] f = refl
sum_places (x ∷ xs) f = ap (λ (n : ℕ). f x + n) (sum_places xs f) ∙ sym (sum_head (length xs) (λ i. f (get_or (x ∷ xs) i 0)))

-- the i-th read of a list is on the side of its digit
pub pattern-side : (rs : List ℕ) → Distinct rs → (k i : ℕ) → i < length rs → pattern rs k (get_or rs i 0) ≡ side_at k i
pattern-side [] u k i l = absurd (not-suc-le-zero l)
pattern-side (r ∷ rs) u k zero l = spread-out rs k r u.0
pattern-side (r ∷ rs) u k (suc i) l = spread_digit rs u.1 k i (le_of_suc-le-suc l)

-- w holds the pairs of column j's active reads, in closing order
abbrev pub Paired : Matrix → ℕ → List (List ℕ) → Type 0
Paired M j w =
    (i : ℕ) → i < length (active_reads M j) → (l : Letter) → weight_of w i l ≡ against l (at (read M (get_or (active_reads M j) i 0)) j)

module _ (M : Matrix) (placed : Placed M) (j : ℕ) (w : List (List ℕ)) (paired : Paired M j w) where
  -- the four sums of a division
  pub sums_any : (d : Division) → W M d j ≡ sums_with w (length (active_reads M j)) (λ i. d (get_or (active_reads M j) i 0))
  unfolding sums_with
  sums_any d = fun_ext (λ s. fun_ext (λ l. go s l))
    where
      go : (s : Side) (l : Letter) → W M d j s l ≡ sum_to (length (active_reads M j)) (λ i. cond (beq (d (get_or (active_reads M j) i 0)) s) (weight_of w i l) 0)
      go s l =
          sums_active M placed d j s l
          ∙ sum_places (active_reads M j) (λ r. cond (beq (d r) s) (against l (at (read M r) j)) 0)
          ∙ sum_ext (length (active_reads M j)) (λ i k. ap (λ (x : ℕ). cond (beq (d (get_or (active_reads M j) i 0)) s) x 0) (sym (paired i k l)))

  -- and of what entry k stands for
  pub sums_is : (k : ℕ) → W M (pattern (active_reads M j) k) j ≡ sums_with w (length (active_reads M j)) (side_at k)
  sums_is k =
      sums_any (pattern (active_reads M j) k)
      ∙ sums_with_ext w (length (active_reads M j)) (λ i l. pattern-side (active_reads M j) (distinct_active M j) k i l)
