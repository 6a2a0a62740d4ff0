use Rattle.std.proofs.Common.{sym, ◌∙◌}
use Rattle.std.proofs.lemmas.Result.{err_from_is_err_and}
use Rattle.meaning.proofs.Convert.{version_one, version_short, version_other}
use Rattle.refusal.specs.declared.Refusal.TheVariants.{Short, Version}
use Rattle.convert.proofs.Whole.{refused_converting, passed-converting}
use Rattle.convert.proofs.convert.Goals as goal

pub returns-then-block-lt9 : goal.returns-then-block-lt9
returns-then-block-lt9 c = refused_converting _ _ Short (sym (version_short _ c.if-block-lt9.true))

pub returns-then-block-ne1 : goal.returns-then-block-ne1
returns-then-block-ne1 c = refused_converting _ _ Version (sym (version_other _ c.if-block-lt9.false c.if-block-ne1.true))

pub returns-in_err-reads : goal.returns-in_err-reads
returns-in_err-reads c =
    let p = err_from_is_err_and c.from_residual.result c.from_residual.ensures.1 in
    rw (p.1, p.2) (refused_converting _ _ _ (c.in_err-reads.ensures.result_value ∙ sym (version_one _ c.if-block-ne1.false)))

pub returns : goal.returns
returns c = c.write.ensures ∙ passed-converting _ _ _ c.if-block-ne1.false c.in_ok-reads.ensures.passes
