use Rattle.lines.proofs.Pieces.{then_puts}
use Rattle.lines.proofs.Page.put_run_line.Goals as goal

pub returns-clause-put : goal.returns-clause-put
returns-clause-put c = then_puts c.put_bytes.ensures (then_puts c.put_run.ensures.put c.put_byte.ensures)
