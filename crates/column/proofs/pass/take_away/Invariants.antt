use Prim.Native.Nat.{ℕ, ◌-◌, ◌≤◌, ◌<◌}
use lib.ListN.{get_or}
use mathlib.Core.Path.{◌≡◌}
use Rattle.column.proofs.pass.take_away.Given as goal

abbrev pub invariant-loop-x : goal.invariant-loop-x
invariant-loop-x l = ((j : ℕ) → j < l.x-index → get_or l.part j 0 ≡ get_or l.initial.part j 0 - l.by) × ((j : ℕ) → l.x-index ≤ j → get_or l.part j 0 ≡ get_or l.initial.part j 0)
