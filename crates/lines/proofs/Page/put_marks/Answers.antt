use native.Mathlib.Omega.{arith}
use Rattle.lines.proofs.Pieces.{byte_as, mark_puts}
use Rattle.lines.proofs.Page.put_marks.Goals as goal

pub loop-m-preserved : goal.loop-m-preserved
loop-m-preserved c = let l = c.loop-m in mark_puts c.args.marks.now l.m-index (omega arith) l.invariant (byte_as _ c.mark_of.ensures c.put_byte.ensures)
