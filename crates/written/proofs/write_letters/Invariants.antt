use Rattle.meaning.specs.Letters.{mode_of}
use Rattle.layout.specs.Matrices.{matrix_of}
use Rattle.written.proofs.Lettering.{Written}
use Rattle.written.proofs.write_letters.Given as goal

abbrev pub invariant-loop-j : goal.invariant-loop-j
invariant-loop-j l = Written (mode_of l.heterozygous) (matrix_of l.placed.reads) l.n l.m l.initial.out l.out l.flips l.j
