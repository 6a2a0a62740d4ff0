-- The reads that lie in a part of bytes one after the other.
use Rattle.std.specs.Prelude.{ℕ, ◌≤◌, ◌<◌, List}
use Rattle.meaning.specs.Block.{Matrix, after_reads, matrix_from}
use Rattle.meaning.proofs.Formed.{Sound}
use Rattle.layout.specs.Cells.{CellSize}
use Rattle.layout.specs.declared.shape.Shape.{Shape}

-- the matrix that they are
abbrev pub matrix_in : Shape → List ℕ → Matrix
matrix_in s reads = matrix_from s.size s.m s.n reads

-- what the checks of the header and the checks 5, 38, 6 and 7 leave: cells of such a size, m and n within their limits, each read sound
pub record Lawful (s : Shape) (reads : List ℕ) : Type 0 where
  pub cell : CellSize s.size
  pub some-column : 0 < s.m
  pub few-columns : s.m ≤ 1024
  pub few-reads : s.n ≤ 1024
  pub sound : (r : ℕ) → r < s.n → Sound s.size s.m (after_reads r reads)
