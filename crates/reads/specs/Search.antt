-- What the checks 5, 38, 6 and 7 find, and what their cases hold.
use Rattle.std.specs.Prelude.{ℕ, ◌+◌, ◌*◌, ◌≤◌, ◌<◌, ◌≡◌, cond, List, length, drop, Result, Ok, Err}
use Rattle.meaning.specs.Block.{length_field, cell_count, after_reads}
use Rattle.meaning.specs.Refusals.{bad_length, retired, bad_place}
use Rattle.refusal.specs.Numbers.{refusal_second}
use Rattle.refusal.specs.declared.Refusal.{Refusal}
use Rattle.reads.specs.declared.Cells.{Cells}

-- the checks 5, 38 and 6 of the read that b starts with
abbrev pub head_fault : ℕ → ℕ → List ℕ → ℕ
head_fault size m b = cond (bad_length size b) 5 (cond (retired size b) 38 (cond (bad_place size m b) 6 0))

-- where the cells of the read at `at` lie
pub record CellsLie (size : ℕ) (reads : List ℕ) (at : ℕ) (cells : Cells) : Type 0 where
  pub starts : cells.start ≡ at + 4
  pub ends : cells.end ≡ at + (2 + length_field (drop at reads))
  pub filled : cells.end ≡ cells.start + size * cell_count size (drop at reads)
  pub inside : cells.end ≤ length reads

-- the read that is named is the one at `at`; and where its cells lie
abbrev pub HeadPlace : ℕ → List ℕ → ℕ → ℕ → Result Cells Refusal → Type 0
HeadPlace size reads r at (Ok cells) = CellsLie size reads at cells
HeadPlace size reads r at (Err e) = refusal_second e ≡ r

-- the read that is named is one of the n; and the place behind the last read
abbrev pub SearchEnd : List ℕ → ℕ → Result ℕ Refusal → Type 0
SearchEnd reads n (Ok at) = at + length (after_reads n reads) ≡ length reads
SearchEnd reads n (Err e) = refusal_second e < n
