use native.Mathlib.Omega.{arith}
use Rattle.stated.proofs.Weighing.{weight-small, weighed_none, weighed_more, weighed_all}
use Rattle.stated.proofs.stated.Stated.weight.Goals as goal

pub loop-j-init : goal.loop-j-init
loop-j-init c = weighed_none _ _

pub overflow_add-total : goal.overflow_add-total
overflow_add-total c =
    let s = c.args.self.now in
    let l = c.loop-j in
    let light = weight-small _ s.answer.now _ s.tallied l.j c.loop-j-test.true in
    let more = weighed_more _ s.answer.now l.total l.j l.invariant _ c.column_at-c.ensures light _ _ c.against.ensures c.against-in-loop-j.ensures in
    omega (arith, s.sized.few-columns, more.small)

pub overflow_add-total-in-loop-j : goal.overflow_add-total-in-loop-j
overflow_add-total-in-loop-j c =
    let s = c.args.self.now in
    let l = c.loop-j in
    let light = weight-small _ s.answer.now _ s.tallied l.j c.loop-j-test.true in
    let more = weighed_more _ s.answer.now l.total l.j l.invariant _ c.column_at-c.ensures light _ _ c.against.ensures c.against-in-loop-j.ensures in
    omega (arith, s.sized.few-columns, more.small)

pub loop-j-preserved : goal.loop-j-preserved
loop-j-preserved c =
    let s = c.args.self.now in
    let l = c.loop-j in
    let light = weight-small _ s.answer.now _ s.tallied l.j c.loop-j-test.true in
    weighed_more _ s.answer.now l.total l.j l.invariant _ c.column_at-c.ensures light _ _ c.against.ensures c.against-in-loop-j.ensures

pub returns : goal.returns
returns c = weighed_all _ c.args.self.now.answer.now _ c.loop-j.j c.loop-j.invariant (omega arith)
