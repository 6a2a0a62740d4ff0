-- What is asked of a caller.
use Rattle.std.specs.Prelude.{ℕ, ◌≤◌, ◌<◌, true, List, ◌≡◌, length, get_or}
use Rattle.meaning.specs.Active.{read, active}
use Rattle.layout.specs.declared.reads.Placed.{Placed}
use Rattle.layout.specs.Matrices.{matrix_of}

-- a list of reads of the placed ones, each active at column j
pub record Laid (placed : Placed) (list : List ℕ) (j : ℕ) : Type 0 where
  pub few : length list ≤ 12
  pub each_read : (i : ℕ) → i < length list → get_or list i 0 < placed.reads.shape.n
  pub each-active : (i : ℕ) → i < length list → active (read (matrix_of placed.reads) (get_or list i 0)) j ≡ true
