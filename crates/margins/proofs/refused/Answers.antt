use native.Mathlib.Omega.{arith}
use mathlib.Core.List.{[], ◌∷◌}
use mathlib.Core.Path.{refl}
use Rattle.layout.specs.Matrices.{matrix_of}
use Rattle.margins.proofs.Calls.{no_cost, told_anew}
use Rattle.margins.proofs.refused.Goals as goal

pub returns-in-Ok : goal.returns-in-Ok
returns-in-Ok c margins l =
    let a = c.args in
    absurd (no_cost (matrix_of a.reads.now) a.work.now (0 ∷ []) (omega arith) 0 _ _ _ c.in-Ok.ensures refl)

pub returns-in-Err : goal.returns-in-Err
returns-in-Err c margins l =
    let a = c.args in
    let s = c.short_run.ensures in
    told_anew (matrix_of a.reads.now) a.work.now (0 ∷ []) (omega arith) _ _ a.out.now margins l _ _ c.in-Err.ensures (record { output = s.output; other = s.other })
