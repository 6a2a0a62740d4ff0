use native.Mathlib.Omega.{arith}
use mathlib.Core.Bool.{true, false}
use Rattle.sums.proofs.level.Goals as goal

pub overflow_add-w0 : goal.overflow_add-w0
overflow_add-w0 c = let s = c.requires in omega (arith, s false false, s true false)

pub overflow_add-w1 : goal.overflow_add-w1
overflow_add-w1 c = let s = c.requires in omega (arith, s false true, s true true)
