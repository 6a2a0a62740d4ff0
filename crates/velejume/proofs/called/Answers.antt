use Rattle.std.proofs.Common.{◌∙◌}
use Rattle.std.proofs.lemmas.Result.{err_from_is_err_and}
use Rattle.meaning.specs.Letters.{mode_of}
use Rattle.velejume.proofs.Laws.{refused_call, passed-call}
use Rattle.velejume.proofs.called.Goals as goal

pub returns-in_err-reads : goal.returns-in_err-reads
returns-in_err-reads c =
    let a = c.args in
    let p = err_from_is_err_and c.from_residual.result c.from_residual.ensures.1 in
    rw (p.1, p.2) (refused_call (mode_of a.heterozygous) a.block.now a.work.now a.out.now _ c.in_err-reads.ensures.result_value)

pub returns : goal.returns
returns c =
    let a = c.args in
    c.solved.ensures ∙ passed-call a.block.now _ c.in_ok-reads.ensures.passes (mode_of a.heterozygous) a.work.now a.out.now
