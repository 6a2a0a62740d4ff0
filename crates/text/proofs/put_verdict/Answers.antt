use borrow.Author.Tests.{lt-ltb, le-ltb}
use Rattle.text.specs.Verdict.{judged_text}
use Rattle.lines.proofs.Pieces.{then_puts}
use Rattle.text.proofs.put_verdict.Goals as goal

pub returns-then-number-lt50 : goal.returns-then-number-lt50
unfolding judged_text
returns-then-number-lt50 c = rw (lt-ltb c.args.number 50 c.if-number-lt50.true) c.put_refusal.ensures

pub returns : goal.returns
unfolding judged_text
returns c = rw (le-ltb c.args.number 50 c.if-number-lt50.false) (then_puts c.put_numbers.ensures.put c.put_words.ensures)
