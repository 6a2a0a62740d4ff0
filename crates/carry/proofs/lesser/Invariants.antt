use Prim.Native.Nat.{ℕ, ◌<◌, min}
use lib.ListN.{get_or}
use mathlib.Core.Path.{◌≡◌}
use Rattle.carry.proofs.lesser.Given as goal

abbrev pub invariant-loop-f : goal.invariant-loop-f
invariant-loop-f l = (g : ℕ) → g < l.f → get_or l.taken g 0 ≡ min (get_or l.a g 0) (get_or l.b g 0)
