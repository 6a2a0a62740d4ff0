use mathlib.Core.Path.{◌≡◌}
use Prim.Native.Nat.{◌-◌}
use Rattle.meaning.specs.Numbers.{min_to}
use Rattle.back.proofs.Rows.{entry}
use Rattle.back.proofs.least_from.Given as goal

-- the least of the rows so far
abbrev pub invariant-loop-row : goal.invariant-loop-row
invariant-loop-row l = l.lowest ≡ min_to (l.row - 1) (entry l.col l.from l.step)
