use Rattle.text.specs.Text.{refusal_text}
use Rattle.text.proofs.put_refusal.Goals as goal

pub returns : goal.returns
unfolding refusal_text
returns c = c.put_numbers.ensures.put
