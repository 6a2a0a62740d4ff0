use Rattle.std.proofs.Common.{◌∙◌}
use Rattle.std.proofs.lemmas.Result.{err_from_is_err_and}
use Rattle.velejume.proofs.Laws.{refused_margins, passed-margins}
use Rattle.velejume.proofs.margined.Goals as goal

pub returns-in_err-reads : goal.returns-in_err-reads
returns-in_err-reads c =
    let a = c.args in
    let p = err_from_is_err_and c.from_residual.result c.from_residual.ensures.1 in
    rw (p.1, p.2) (refused_margins a.block.now a.work.now a.out.now a.margins.now _ c.in_err-reads.ensures.result_value)

pub returns : goal.returns
returns c =
    let a = c.args in
    c.margined.ensures ∙ passed-margins a.block.now _ c.in_ok-reads.ensures.passes a.work.now a.out.now a.margins.now
