use Rattle.layout.specs.Matrices.{matrix_of}
use Rattle.stated.proofs.Weighing.{WeighedTo}
use Rattle.stated.proofs.stated.Stated.weight.Given as goal

abbrev pub invariant-loop-j : goal.invariant-loop-j
invariant-loop-j l = WeighedTo (matrix_of l.self.reads) l.self.answer.now l.total l.j
