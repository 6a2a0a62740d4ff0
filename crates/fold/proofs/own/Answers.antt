use native.Mathlib.Omega.{arith}
use Rattle.fold.proofs.Masks.{own_none, own_digit, own-small}
use Rattle.fold.proofs.own.Goals as goal

pub returns-then-seen-eq0 : goal.returns-then-seen-eq0
returns-then-seen-eq0 c = own_none _ _ c.if-seen-eq0.true

pub overflow_mul-result : goal.overflow_mul-result
overflow_mul-result c = omega (arith, own-small _ _ _ c.requires.0 c.requires.1 c.power.ensures)

pub returns-else-seen-eq0 : goal.returns-else-seen-eq0
returns-else-seen-eq0 c = own_digit _ _ _ c.if-seen-eq0.false c.power.ensures
