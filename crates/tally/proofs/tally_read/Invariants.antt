use mathlib.Core.Path.{◌≡◌}
use Prim.Native.Nat.{◌+◌, ◌*◌}
use Rattle.layout.specs.Places.{read_from}
use Rattle.sums.specs.Sums.{side_of}
use Rattle.tally.specs.Tally.{ReadAdded}
use Rattle.tally.proofs.tally_read.Given as goal

abbrev pub invariant-loop-i : goal.invariant-loop-i
invariant-loop-i l =
    (l.at ≡ 4 * (l.from + l.i) + 2 * l.side)
    × ReadAdded (read_from l.shape.size l.from l.i l.cells) (side_of l.side) l.initial.tally l.tally
