use Rattle.margins.proofs.Writing.{Margined}
use Rattle.margins.proofs.write_margins.Given as goal

abbrev pub invariant-loop-j : goal.invariant-loop-j
invariant-loop-j l = Margined l.m l.tally l.initial.margins l.margins l.j
