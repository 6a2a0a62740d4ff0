use native.Mathlib.Omega.{arith}
use Prim.Native.Nat.{◌+◌}
use mathlib.Core.Bool.{true, false}
use mathlib.Core.Path.{ap₂}
use Rattle.meaning.specs.Charge.{charge_of}
use Rattle.sums.proofs.charged.Goals as goal

pub overflow_add-result : goal.overflow_add-result
overflow_add-result c = let s = c.requires in omega (arith, s false false, s false true, s true false, s true true)

pub returns : goal.returns
unfolding charge_of
returns c = ap₂ ◌+◌ c.lesser.ensures c.lesser-2.ensures
