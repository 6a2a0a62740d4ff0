-- What holds of a block that passes the checks 1 to 8.
use Rattle.std.specs.Prelude.{ℕ, ◌≤◌, ◌≡◌, List, length}
use Rattle.meaning.specs.Block.{latest, reads_part}
use Rattle.meaning.specs.Block as block
use Rattle.meaning.specs.Refusals.{block_refusal}
use Rattle.layout.specs.declared.reads.Reads.{Reads}
use Rattle.layout.specs.Matrices.{matrix_of}

-- its reads are those behind its header, and its matrix
pub record Passes (b : List ℕ) (r : Reads) : Type 0 where
  pub bytes_are : r.bytes.now ≡ reads_part b
  pub matrix_is : matrix_of r ≡ block.matrix_of b
  pub nine : 9 ≤ length b
  pub formed : (block_refusal latest b).number ≡ 0
