use Rattle.std.proofs.Common.{ℕ, ◌≤◌, ◌<◌, sym, subst, ◌∙◌, rules, arith}
use Rattle.std.proofs.lemmas.Result.{err_from_is_err_and}
use Rattle.meaning.specs.Numbers.{any_to}
use Rattle.layout.proofs.Tests.{none_more}
use Rattle.reads.proofs.Walk.{head_refused, faulty_read, sound-read, left_stop, left_on, left_none, left_end}
use Rattle.reads.proofs.first_fault.Goals as goal

pub returns-in_err-start : goal.returns-in_err-start
returns-in_err-start c =
    let w = c.reads in
    let l = c.if-r-shape.false in
    let p = err_from_is_err_and c.from_residual.result c.from_residual.ensures.1 in
    let h = c.in_err-start.ensures in
    rw (p.1, p.2) (record { result_value = head_refused _ _ w.at w.r w.invariant.2 _ l h.result_value h.head_place; search_end = omega (arith, h.head_place) })

pub loop-i-init : goal.loop-i-init
unfolding any_to
loop-i-init c = search rules

pub loop-i-preserved : goal.loop-i-preserved
loop-i-preserved c = none_more c.loop-i.i _ c.loop-i.invariant (sym c.cell_bad.ensures ∙ c.if-cell_bad.false)

pub reads-preserved : goal.reads-preserved
reads-preserved c =
    let w = c.reads in
    let l = c.loop-i in
    let some : 0 < c.args.shape.size = omega arith in
    let count = c.cells_in-i-end.ensures in
    let most = subst (λ (n : ℕ). l.i ≤ n) count l.auto.i-end in
    let all = subst (λ (n : ℕ). n ≤ l.i) count c.loop-i-test.false in
    let lies = c.in_ok-start.ensures.head_place in
    let e = sound-read _ some _ w.at _ lies _ (sym c.in_ok-start.ensures.result_value) l.i most all l.invariant in
    (omega (arith, lies), omega arith, left_on _ _ w.at w.r w.invariant.2 _ c.if-r-shape.false e lies.ends)

pub returns-then-r-shape : goal.returns-then-r-shape
returns-then-r-shape c =
    let w = c.reads in
    record { result_value = left_none _ _ w.at w.r w.invariant.2 c.if-r-shape.true; search_end = left_end _ _ w.at w.r w.invariant.2 c.if-r-shape.true w.invariant.0 }

pub returns-then-cell_bad-clause-result_value : goal.returns-then-cell_bad-clause-result_value
returns-then-cell_bad-clause-result_value c =
    let w = c.reads in
    let some : 0 < c.args.shape.size = omega arith in
    let below = subst (λ (n : ℕ). c.loop-i.i < n) c.cells_in-i-end.ensures c.loop-i-test.true in
    let f = sym c.cell_bad.ensures ∙ c.if-cell_bad.true in
    let e = faulty_read _ some _ w.at _ c.in_ok-start.ensures.head_place _ (sym c.in_ok-start.ensures.result_value) c.loop-i.i below f in
    left_stop _ _ w.at w.r w.invariant.2 7 c.if-r-shape.false e (omega arith)
