use native.Mathlib.Omega.{arith}
use mathlib.Core.Path.{◌∙◌}
use Rattle.back.proofs.Rows.{Whole, some_row, least_none, least_more, least_all}
use Rattle.back.proofs.least_from.Goals as goal

pub loop-row-init : goal.loop-row-init
loop-row-init c = least_none c.args.col.now c.args.from c.args.step

pub loop-row-preserved : goal.loop-row-preserved
loop-row-preserved c =
    let l = c.loop-row in
    c.min-lowest.ensures ∙ least_more c.args.col.now c.args.from c.args.step l.lowest l.row l.auto.row l.invariant

pub returns : goal.returns
returns c =
    let a = c.args in
    let whole : Whole a.col.now a.from a.step = record {
      positive = c.requires.step_nonzero.0;
      rows = c.requires.step_value.0;
      some = c.requires.step_value.1;
    } in
    let l = c.loop-row in
    least_all a.col.now a.from a.step l.lowest l.row (omega (arith, some_row a.col.now a.from a.step whole)) l.invariant
