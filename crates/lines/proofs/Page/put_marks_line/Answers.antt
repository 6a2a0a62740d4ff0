use Rattle.lines.proofs.Pieces.{then_puts}
use Rattle.lines.proofs.Page.put_marks_line.Goals as goal

pub returns-clause-put : goal.returns-clause-put
returns-clause-put c = then_puts c.put_bytes.ensures (then_puts c.put_marks.ensures c.put_byte.ensures)
