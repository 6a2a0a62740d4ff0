use Rattle.lines.proofs.Pieces.{then_puts}
use Rattle.lines.proofs.Page.put_letters.Goals as goal

pub returns-clause-put : goal.returns-clause-put
returns-clause-put c = then_puts c.put_marks_line.ensures.put c.put_marks_line-2.ensures.put
