use Rattle.lines.specs.Line.{numbers_line}
use Rattle.lines.proofs.Lines.{numbers_is}
use Rattle.lines.proofs.Pieces.{puts_as, then_puts}
use Rattle.lines.proofs.Page.put_numbers.Goals as goal

pub returns-clause-put : goal.returns-clause-put
returns-clause-put c =
    let a = c.args in
    let h = then_puts c.put_bytes.ensures (then_puts c.put_decimal.ensures.put c.put_number_line.ensures.put) in
    puts_as h (numbers_line a.name.now a.number a.second) (numbers_is a.name.now a.number a.second)
