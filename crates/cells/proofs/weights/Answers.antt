use native.Mathlib.Omega.{arith}
use Rattle.cells.proofs.Pairs.{times_digit, pair_light, pair_is}
use Rattle.cells.proofs.weights.Goals as goal

pub overflow_mul-y : goal.overflow_mul-y
overflow_mul-y c = omega (arith, times_digit c.weight_at-x.result c.from-letter.result, c.weight_at-x.ensures.1)

pub overflow_sub-result : goal.overflow_sub-result
overflow_sub-result c = times_digit _ _

pub returns : goal.returns
returns c =
    let a = c.args in
    let letter = c.from-letter in record { value = pair_is a.cells.now a.shape.size a.i _ _ c.requires.1 letter.ensures c.weight_at-x.ensures.0; l_bound = pair_light 65535 c.weight_at-x.result letter.result c.weight_at-x.ensures.1 }
