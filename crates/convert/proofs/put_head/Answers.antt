use Rattle.std.proofs.Common.{ap, ◌∙◌}
use Rattle.meaning.specs.Numbers.{bytes_of}
use Rattle.meaning.specs.Call.{laid}
use Rattle.convert.proofs.Parts.{head_laid}
use Rattle.convert.proofs.put_head.Goals as goal

pub returns : goal.returns
returns c =
    let a = c.args in
    c.put_word-2.ensures
    ∙ ap (laid 7 (bytes_of 2 a.n))
    (c.put_word.ensures
    ∙ ap (laid 5 (bytes_of 2 a.m)) c.put_long.ensures)
    ∙ head_laid a.out.now a.m a.n a.bytes c.requires.0
