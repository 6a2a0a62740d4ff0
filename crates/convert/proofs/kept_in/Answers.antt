use Rattle.std.proofs.Common.{length, refl, ap, rules, arith}
use Rattle.meaning.specs.Block.{Matrix}
use Rattle.layout.specs.Matrices.{matrix_of}
use Rattle.layout.specs.Places.{read_start}
use Rattle.convert.specs.Walked.{bytes_to, kept_to}
use Rattle.convert.proofs.Walk.{bytes_skip, bytes_take}
use Rattle.convert.proofs.kept_in.Goals as goal
use Rattle.convert.proofs.kept_in.Goals.{then-count-gt0, else-count-gt0}

pub loop-r-init : goal.loop-r-init
unfolding read_start bytes_to kept_to
loop-r-init c = (refl, search rules, refl, search rules, refl, search rules)

pub loop-r-preserved : goal.loop-r-preserved
loop-r-preserved c =
    let l = c.loop-r in
    let M : Matrix = matrix_of c.args.reads.now in
    let h = c.read_at-count.ensures l.r (c.loop-r-test.true, l.invariant.0, l.invariant.1) in
    elim c.if-count-gt0.branch [
      | then-count-gt0 w ↦ let s = bytes_take M l.r (omega (arith, h)) in
          rw w.kept-is (h.next_is, h.early, omega arith, omega arith, omega (arith, s.2), omega (arith, h))
      | else-count-gt0 w ↦ let s = bytes_skip M l.r (omega (arith, h)) in
          rw w.kept-is (h.next_is, h.early, omega arith, omega arith, omega (arith, ap length s.0), omega arith)
    ]
