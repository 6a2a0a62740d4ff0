use Prim.Native.Nat.{ℕ, ◌≤◌}
use mathlib.Core.Path.{◌≡◌}
use lib.ListN.{get_or}
use Rattle.meaning.specs.Division.{all_zero}
use Rattle.meaning.specs.Answer.{division_of}
use Rattle.meaning.specs.Rule.{column_of, way_back}
use Rattle.layout.specs.Matrices.{matrix_of}
use Rattle.sides.proofs.Table.way_back.Given as goal

-- the way back through the first j columns, from these sides, is the whole way
abbrev pub invariant-loop-j : goal.invariant-loop-j
invariant-loop-j l =
    ((r : ℕ) → get_or l.sides r 0 ≤ 1)
    × (way_back (matrix_of l.self.listed.reads) (column_of (matrix_of l.self.listed.reads) l.self.work.now) l.j (division_of l.sides)
    ≡ way_back (matrix_of l.self.listed.reads) (column_of (matrix_of l.self.listed.reads) l.self.work.now) l.self.listed.reads.shape.m all_zero)
