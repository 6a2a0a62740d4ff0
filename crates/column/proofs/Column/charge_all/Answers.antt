use native.Mathlib.Omega.{arith}
use Rattle.column.proofs.Laws.{level_inside, level_away}
use Rattle.column.proofs.Column.charge_all.Goals as goal

pub take_away-requires : goal.take_away-requires
take_away-requires c = level_inside c.args.self.now.heterozygous c.args.self.now.w.now c.args.self.now.p c.args.self.now.turn.now c.args.self.now.taken.now c.pass.new.part c.pass.ensures _ _ (omega (arith, c.requires.entries_len, c.pass.auto)) c.begin-start.ensures.whole_value

pub returns : goal.returns
returns c = level_away c.args.self.now.heterozygous c.args.self.now.w.now c.args.self.now.p c.args.self.now.turn.now c.args.self.now.taken.now c.pass.new.part c.pass.ensures _ _ (omega (arith, c.requires.entries_len, c.pass.auto)) c.begin-start.ensures.whole_value c.take_away.new.part c.take_away.ensures
