use Rattle.stated.proofs.Marks.{unknown_side, by_letters}
use Rattle.stated.proofs.unknown_mark.Goals as goal

pub returns-then-any_above : goal.returns-then-any_above
returns-then-any_above c = unknown_side c.args.answer.now c.args.shape.m c.args.shape.n c.requires _ c.any_above.ensures c.if-any_above.true

pub returns : goal.returns
returns c = by_letters c.args.answer.now c.args.shape.m c.args.shape.n c.requires _ c.any_above.ensures c.if-any_above.false _ c.any_above-2.ensures
