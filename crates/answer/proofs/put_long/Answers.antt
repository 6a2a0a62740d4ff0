use mathlib.Core.Path.{◌∙◌}
use native.Mathlib.Omega.{arith}
use Rattle.meaning.specs.Numbers.{bytes_of}
use Rattle.answer.proofs.Laws.{part_laid, long_bytes}
use Rattle.answer.proofs.put_long.Goals as goal

pub returns : goal.returns
unfolding bytes_of
returns c =
    part_laid c.args.out.now c.args.at _ _ _ (c.copy_from_slice.ensures.after ∙ c.to_be_bytes.ensures ∙ long_bytes c.args.x) (omega arith)
