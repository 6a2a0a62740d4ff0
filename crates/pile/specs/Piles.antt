-- What the search for refusal 9 finds: the numbers of the check, and the most of the columns.
use Rattle.std.specs.Prelude.{ℕ, ◌≤◌, ◌<◌, ◌≡◌, Result, Ok, Err}
use Rattle.meaning.specs.Numbers.{max_to}
use Rattle.meaning.specs.Refusals.{Numbers, passed}

-- 9 with the column that is found, or it passes
abbrev pub pile_numbers : Result ℕ ℕ → Numbers
pile_numbers (Ok a) = passed
pile_numbers (Err j) = record { number = 9; second = j }

-- the most of m columns, at most 12; or one of them
abbrev pub PileMost : (ℕ → ℕ) → ℕ → Result ℕ ℕ → Type 0
PileMost count m (Ok a) = (a ≡ max_to m count) × (a ≤ 12)
PileMost count m (Err j) = j < m
