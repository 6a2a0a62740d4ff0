use native.Mathlib.Omega.{arith}
use Rattle.layout.proofs.Laws.{ready-thin}
use Rattle.verdict.proofs.Tabled.{least-cost, our_sides}
use Rattle.verdict.proofs.Verdicts.{gives_53, gives_54, gives_55, is_least, gives_56, gives_57}
use Rattle.verdict.proofs.weighed.Goals as goal

pub tally-requires-clause-thin : goal.tally-requires-clause-thin
tally-requires-clause-thin c = rw c.placed.ensures.0 (ready-thin _ _ _ _ c.args.table.now.listed.ready)

pub returns-then-false_dash : goal.returns-then-false_dash
returns-then-false_dash c = gives_53 _ c.args.answer.now c.requires.sized.1 _ c.false_dash.ensures c.if-false_dash.true

pub returns-then-wrong_cost : goal.returns-then-wrong_cost
returns-then-wrong_cost c = gives_54 _ c.args.answer.now c.requires.sized.1 _ c.false_dash.ensures c.if-false_dash.false _ c.wrong_cost.ensures c.if-wrong_cost.true

pub returns-then-least-long_at : goal.returns-then-least-long_at
returns-then-least-long_at c =
    let least = least-cost c.args.table.now c.requires.right _ c.least_last-least.ensures in
    gives_55 _ c.args.answer.now c.requires.sized.1 _ c.false_dash.ensures c.if-false_dash.false _ c.wrong_cost.ensures c.if-wrong_cost.false
    _ _ c.long_at.ensures.0 least (omega (arith, c.if-least-long_at.true))

pub other_answer-requires : goal.other_answer-requires
other_answer-requires c = our_sides c.args.table.now c.requires.right _ c.write_sides.ensures

pub returns-then-other_answer : goal.returns-then-other_answer
returns-then-other_answer c =
    let least = least-cost c.args.table.now c.requires.right _ c.least_last-least.ensures in
    -- none of 50 to 55 applies
    let passed =
    is_least _ c.args.answer.now c.requires.sized.1 _ c.false_dash.ensures c.if-false_dash.false _ c.wrong_cost.ensures c.if-wrong_cost.false
    _ _ c.long_at.ensures.0 least (omega (arith, c.if-least-long_at.false)) in
    gives_56 _ c.args.answer.now passed _ c.other_answer.ensures c.if-other_answer.true

pub returns : goal.returns
returns c =
    let least = least-cost c.args.table.now c.requires.right _ c.least_last-least.ensures in
    let passed =
    is_least _ c.args.answer.now c.requires.sized.1 _ c.false_dash.ensures c.if-false_dash.false _ c.wrong_cost.ensures c.if-wrong_cost.false
    _ _ c.long_at.ensures.0 least (omega (arith, c.if-least-long_at.false)) in
    gives_57 _ c.args.answer.now passed _ c.other_answer.ensures c.if-other_answer.false
