use native.Mathlib.Omega.{arith}
use mathlib.Core.Path.{sym, ◌∙◌}
use Rattle.meaning.specs.Rule.{column_of}
use Rattle.layout.specs.Matrices.{matrix_of}
use Rattle.layout.proofs.Laws.{count_is}
use Rattle.sides.proofs.WayBack.{back_turn, back_end}
use Rattle.sides.proofs.Table.way_back.Goals as goal

pub loop-j-preserved : goal.loop-j-preserved
loop-j-preserved c =
    let M = matrix_of c.args.self.now.listed.reads in
    let l = c.loop-j in
    back_turn M (column_of M c.args.self.now.work.now) l.j l.sides c.back_at.new.sides _ (omega arith) c.back_at.ensures l.invariant.1

pub returns : goal.returns
returns c =
    let r = c.args.self.now.listed.reads in
    let M = matrix_of r in
    let l = c.loop-j in
    back_end M (column_of M c.args.self.now.work.now) l.j l.sides _ (omega arith)
    (l.auto.sides ∙ sym c.requires.n_value ∙ sym (count_is r.shape r.bytes.now)) l.invariant.0 l.invariant.1
