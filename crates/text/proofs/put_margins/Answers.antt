use Rattle.text.specs.Text.{margins_text}
use Rattle.text.proofs.Lines.{margins_is}
use Rattle.lines.proofs.Pieces.{puts_as, then_puts}
use Rattle.text.proofs.put_margins.Goals as goal

pub returns : goal.returns
returns c =
    let a = c.args in
    let h = then_puts c.put_answer.ensures.put (then_puts c.put_run_line.ensures.put c.put_run_line-2.ensures.put) in
    puts_as h (margins_text a.answer.now a.margins.now) (margins_is a.answer.now a.margins.now _ c.word_at-m.ensures.0)
