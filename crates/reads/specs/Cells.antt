-- The check 7 of one cell.
use Rattle.std.specs.Prelude.{ℕ, ◌+◌, ◌*◌, Bool, ◌&&◌, ◌||◌, List, length, eqb}
use Rattle.meaning.specs.Block.{cell_at}
use Rattle.meaning.specs.Refusals.{bad_cell, is_hole}

-- cell i of a read's cells, `size` bytes each: a letter above 2, a hole with weight, or a hole that is the first or the last cell
unfoldable pub faulty_cell : ℕ → List ℕ → ℕ → Bool
faulty_cell size part i = bad_cell (cell_at size part i) || (is_hole (cell_at size part i) && (eqb i 0 || eqb (size * i + size) (length part)))
