use mathlib.Core.Path.{◌≡◌}
use Prim.Native.Nat.{◌*◌, ◌≤◌}
use Rattle.layout.specs.Places.{read_start}
use Rattle.reads.proofs.PlacesNoted.{Upto}
use Rattle.reads.proofs.places.Given as goal

-- The reads passed are noted, and the next one stands at `at`.
abbrev pub invariant-loop-r : goal.invariant-loop-r
invariant-loop-r l = (l.at ≡ read_start l.reads.bytes.now l.r) × (l.at ≤ 65537 * l.r) × Upto l.reads.shape l.reads.bytes.now l.places l.r
