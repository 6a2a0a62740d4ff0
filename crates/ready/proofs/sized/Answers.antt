use native.Mathlib.Omega.{arith}
use Rattle.std.proofs.lemmas.Result.{err_from_is_err_and}
use Rattle.layout.specs.Matrices.{matrix_of}
use Rattle.refusal.proofs.Told.{refusal_above}
use Rattle.ready.proofs.Piles.{table_fits}
use Rattle.ready.proofs.Refused.{refused_9, refused_10}
use Rattle.ready.proofs.sized.Goals as goal

pub overflow_mul-need : goal.overflow_mul-need
overflow_mul-need c =
    let r = c.args.reads.now in
    omega (arith, table_fits r.shape r.bytes.now c.in_ok-t.t c.in_ok-t.ensures.columns_found)

pub overflow_cast-result : goal.overflow_cast-result
overflow_cast-result c =
    let r = c.args.reads.now in
    omega (arith, table_fits r.shape r.bytes.now c.in_ok-t.t c.in_ok-t.ensures.columns_found)

pub returns-in_err-t-clause-table_sized : goal.returns-in_err-t-clause-table_sized
returns-in_err-t-clause-table_sized c =
    let e = err_from_is_err_and c.from_residual.result c.from_residual.ensures.1 in
    rw (e.1, e.2) (λ out. refused_9 (matrix_of c.args.reads.now) c.args.entries out _ c.in_err-t.ensures.columns_found (refusal_above _))

pub returns-then-entries-need-clause-table_sized : goal.returns-then-entries-need-clause-table_sized
returns-then-entries-need-clause-table_sized c =
    λ out. refused_10 (matrix_of c.args.reads.now) c.args.entries out c.in_ok-t.t c.in_ok-t.ensures.columns_found c.if-entries-need.true

pub returns-clause-table_sized : goal.returns-clause-table_sized
returns-clause-table_sized c = (c.in_ok-t.ensures.columns_found, c.if-entries-need.false)
