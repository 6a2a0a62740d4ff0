-- One column's pass: what it takes over from the column before, and what it writes.
use Rattle.std.specs.Prelude.{ℕ, ◌+◌, ◌^◌, ◌≤◌, ◌<◌, cond, List, length, get_or, ltb}
use Rattle.fold.specs.Turn.{fold_to, side_at}
use Rattle.meaning.specs.Numbers.{run}
use Rattle.meaning.specs.Active.{used}
use Rattle.meaning.specs.Charge.{Sums}
use Rattle.sums.specs.Sums.{sums_with}

-- a folded index of so many digits has its entry in what is taken over, and no such entry is too large to add a charge to
pub record Room (turn : List ℕ) (p : ℕ) (taken : List ℕ) : Type 0 where
  pub digits : ℕ
  pub inside : 2 ^ digits ≤ length taken
  pub turns : (i : ℕ) → i < p → get_or turn i 0 < 2 ^ digits
  pub small : (f : ℕ) → f < 2 ^ digits → get_or taken f 0 ≤ 4000000000

-- entry k of a column with p reads: the charge of what it stands for, and what that takes over
unfoldable pub entry_at : (Sums → ℕ) → List (List ℕ) → List ℕ → List ℕ → ℕ → ℕ → ℕ
entry_at charged w turn taken p k = charged (sums_with w p (side_at k)) + get_or taken (fold_to turn k p) 0

-- all entries of the part, zeros behind those that stand for a division
unfoldable pub passed : (Sums → ℕ) → List (List ℕ) → List ℕ → List ℕ → ℕ → ℕ → List ℕ
passed charged w turn taken p entries = run 0 entries (λ k. cond (ltb k (used p)) (entry_at charged w turn taken p k) 0)
