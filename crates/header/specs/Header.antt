-- What a header says: the bytes of a cell, and the shape of the reads.
use Rattle.std.specs.Prelude.{ℕ, ◌≤◌, ◌<◌, cond, ◌≡◌, List, eqb, length, Option, Some, None}
use Rattle.meaning.specs.Block.{columns_field, reads_field, cell_size}
use Rattle.layout.specs.declared.shape.Shape.{Shape}
use Rattle.layout.specs.Cells.{CellSize}

-- the bytes of a cell, where the version is known
unfoldable pub size_of : ℕ → Option ℕ
size_of version = cond (eqb version 1) (Some 2) (cond (eqb version 2) (Some 3) None)

-- what a header that passes says of the shape of its reads
pub record Sized (b : List ℕ) (s : Shape) : Type 0 where
  pub nine : 9 ≤ length b
  pub size_is : s.size ≡ cell_size b
  pub columns : s.m ≡ columns_field b
  pub reads : s.n ≡ reads_field b
  pub cell : CellSize s.size
  pub some-column : 0 < s.m
  pub few-columns : s.m ≤ 1024
  pub few-reads : s.n ≤ 1024
