use native.Mathlib.Omega.{arith}
use mathlib.Core.Path.{refl}
use Rattle.std.proofs.lemmas.Result.{err_from_is_err_and}
use Rattle.layout.specs.Matrices.{matrix_of}
use Rattle.layout.proofs.Laws.{count_is}
use Rattle.refusal.proofs.Told.{refusal-numbered}
use Rattle.margins.proofs.Calls.{refused_so, accepted_thin, output_fits, accepted_so}
use Rattle.margins.proofs.solve.Goals as goal

pub returns-then-margins-reads : goal.returns-then-margins-reads
returns-then-margins-reads c = c.refused.ensures c.args.margins.now c.if-margins-reads.true

pub returns-in_err-cost : goal.returns-in_err-cost
returns-in_err-cost c =
    let a = c.args in
    let e = err_from_is_err_and c.from_residual.result c.from_residual.ensures.1 in
    rw (e.1, e.2) (refused_so (matrix_of a.reads.now) a.work.now a.out.now a.margins.now _ _ _ _ c.in_err-cost.ensures (refusal-numbered _))

pub margined-requires-clause-thin : goal.margined-requires-clause-thin
margined-requires-clause-thin c =
    let a = c.args in
    accepted_thin (matrix_of a.reads.now) a.work.now a.out.now a.margins.now 0 _ _ _ c.in_ok-cost.ensures refl

pub margined-requires-clause-n_in_bounds : goal.margined-requires-clause-n_in_bounds
margined-requires-clause-n_in_bounds c =
    let a = c.args in
    let r = a.reads.now in
    let fits = output_fits (matrix_of r) a.work.now a.out.now a.margins.now 0 _ _ _ c.in_ok-cost.ensures refl r.shape.n (count_is r.shape r.bytes.now) in
    (omega (arith, fits, c.solve.auto.out), c.if-margins-reads.false)

pub returns : goal.returns
returns c =
    let a = c.args in
    let r = a.reads.now in
    accepted_so (matrix_of r) a.work.now a.out.now a.margins.now 0 _ _ _ c.in_ok-cost.ensures refl r.shape.n (count_is r.shape r.bytes.now)
    c.if-margins-reads.false _ c.margined.ensures
