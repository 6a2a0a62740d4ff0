use Prim.Native.Nat.{ℕ, ◌<◌}
use lib.ListN.{get_or}
use mathlib.Core.Path.{◌≡◌}
use Rattle.carry.proofs.only.Given as goal

abbrev pub invariant-loop-f : goal.invariant-loop-f
invariant-loop-f l = (g : ℕ) → g < l.f → get_or l.taken g 0 ≡ get_or l.row g 0
