use native.Mathlib.Omega.{arith}
use mathlib.Core.Path.{refl}
use Rattle.column.proofs.Gray.{lowest_lt}
use Rattle.column.proofs.walk.digit.Goals as goal

pub overflow_cast-result : goal.overflow_cast-result
overflow_cast-result c = let h = lowest_lt 64 12 c.args.n c.requires.0 (omega (arith, c.requires.1)) in record { fits = omega arith }

pub returns : goal.returns
returns c = (refl, lowest_lt 64 12 c.args.n c.requires.0 (omega (arith, c.requires.1)))
