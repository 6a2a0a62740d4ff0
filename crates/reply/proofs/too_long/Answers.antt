use Rattle.text.specs.Text.{text_of}
use Rattle.reply.proofs.too_long.Goals as goal

pub returns : goal.returns
unfolding text_of
returns c = let e = c.write_text.ensures in record { value = (e.value, e.upper_bound); page_after = e.text_after }
