use native.Mathlib.Omega.{arith}
use Rattle.lines.proofs.Pieces.{puts_none, puts-length, puts_ends, number_puts}
use Rattle.lines.specs.Line.{run_text}
use Rattle.lines.proofs.Page.put_run.Goals as goal

pub loop-x-init : goal.loop-x-init
unfolding run_text
loop-x-init c = (omega arith, puts_none c.args.self.now (omega arith))

pub put_byte-requires : goal.put_byte-requires
put_byte-requires c = omega (arith, puts-length c.loop-x.invariant.1)

pub loop-x-preserved : goal.loop-x-preserved
loop-x-preserved c =
    let l = c.loop-x in
    let d = c.put_decimal.ensures in
    (omega (arith, puts_ends c.put_byte.ensures, d.upper_bound), number_puts c.args.numbers.now l.x-index (omega arith) l.invariant.1 c.put_byte.ensures d.put)
