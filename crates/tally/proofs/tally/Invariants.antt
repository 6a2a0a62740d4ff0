use Rattle.meaning.specs.Answer.{division_of}
use Rattle.layout.specs.Matrices.{matrix_of}
use Rattle.tally.proofs.Walk.{Upto}
use Rattle.tally.proofs.tally.Given as goal

abbrev pub invariant-loop-r : goal.invariant-loop-r
invariant-loop-r l = Upto (matrix_of l.placed.reads) (division_of l.sides) l.r l.tally
