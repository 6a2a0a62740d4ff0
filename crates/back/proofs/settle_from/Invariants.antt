use Rattle.back.proofs.Settled.{Settling}
use Rattle.back.proofs.settle_from.Given as goal

abbrev pub invariant-loop-i : goal.invariant-loop-i
invariant-loop-i l = Settling l.col l.list l.s l.initial.sides l.sides l.low l.head l.i
