-- The bytes of a cell.
use Rattle.std.specs.Prelude.{ℕ, ◌≤◌}

-- a cell has two bytes, or three
abbrev pub CellSize : ℕ → Type 0
CellSize size = (2 ≤ size) × (size ≤ 3)
