use Rattle.text.specs.Text.{answer_text}
use Rattle.text.proofs.Lines.{answer_is}
use Rattle.lines.proofs.Pieces.{puts_as, then_puts}
use Rattle.text.proofs.put_answer.Goals as goal

pub returns-clause-put : goal.returns-clause-put
returns-clause-put c =
    let h = then_puts c.put_number_line.ensures.put (then_puts c.put_number_line-2.ensures.put (then_puts c.put_sides_line.ensures.put c.put_letters.ensures.put)) in
    let b = c.args.answer.now in
    puts_as h (answer_text b) (answer_is b _ _ _ _ c.word_at-n.ensures.0 c.word_at-m.ensures.0 c.long_at.ensures.0 c.long_at-2.ensures.0)
