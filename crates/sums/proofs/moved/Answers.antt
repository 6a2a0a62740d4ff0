use native.Mathlib.Omega.{arith}
use mathlib.Core.Bool.{true, false}
use mathlib.Core.Logic.{◌≢◌}
use mathlib.Core.Path.{◌≡◌, sym, ap, subst}
use Prim.Native.Nat.{ℕ, ◌<◌}
use Rattle.meaning.specs.Charge.{Letter, Sums}
use Rattle.meaning.specs.Division.{Side}
use Rattle.sums.specs.Sums.{sums_of, array_of, pair_at, side_of, moved_sums, Movable}
use Rattle.sums.proofs.Laws.{side_zero, side_one}
use Rattle.sums.proofs.moved.Goals as goal

-- what moving from side 0, and from side 1, asks
from_zero : (x : Sums) (w : Letter → ℕ) (from : ℕ) → from ≡ 0 → Movable x w (side_of from) → Movable x w false
from_zero x w from e = subst (Movable x w) (side_zero from e)

from_one : (x : Sums) (w : Letter → ℕ) (from : ℕ) → from < 2 → from ≢ 0 → Movable x w (side_of from) → Movable x w true
from_one x w from l ne = subst (Movable x w) (side_one from l ne)

pub overflow_sub-result : goal.overflow_sub-result
overflow_sub-result c = (from_zero (sums_of c.args.s) (pair_at c.args.w) c.args.from c.if-from-eq0.true c.requires.1 false).0

pub overflow_sub-result-then-from-eq0 : goal.overflow_sub-result-then-from-eq0
overflow_sub-result-then-from-eq0 c = (from_zero (sums_of c.args.s) (pair_at c.args.w) c.args.from c.if-from-eq0.true c.requires.1 true).0

pub overflow_add-result : goal.overflow_add-result
overflow_add-result c = omega (arith, (from_zero (sums_of c.args.s) (pair_at c.args.w) c.args.from c.if-from-eq0.true c.requires.1 false).1)

pub overflow_add-result-then-from-eq0 : goal.overflow_add-result-then-from-eq0
overflow_add-result-then-from-eq0 c = omega (arith, (from_zero (sums_of c.args.s) (pair_at c.args.w) c.args.from c.if-from-eq0.true c.requires.1 true).1)

pub overflow_add-result-else-from-eq0 : goal.overflow_add-result-else-from-eq0
overflow_add-result-else-from-eq0 c = omega (arith, (from_one (sums_of c.args.s) (pair_at c.args.w) c.args.from c.requires.0 c.if-from-eq0.false c.requires.1 false).1)

pub overflow_add-result-else-from-eq0-2 : goal.overflow_add-result-else-from-eq0-2
overflow_add-result-else-from-eq0-2 c = omega (arith, (from_one (sums_of c.args.s) (pair_at c.args.w) c.args.from c.requires.0 c.if-from-eq0.false c.requires.1 true).1)

pub overflow_sub-result-else-from-eq0 : goal.overflow_sub-result-else-from-eq0
overflow_sub-result-else-from-eq0 c = (from_one (sums_of c.args.s) (pair_at c.args.w) c.args.from c.requires.0 c.if-from-eq0.false c.requires.1 false).0

pub overflow_sub-result-else-from-eq0-2 : goal.overflow_sub-result-else-from-eq0-2
overflow_sub-result-else-from-eq0-2 c = (from_one (sums_of c.args.s) (pair_at c.args.w) c.args.from c.requires.0 c.if-from-eq0.false c.requires.1 true).0

pub returns-then-from-eq0 : goal.returns-then-from-eq0
returns-then-from-eq0 c =
    let s = c.args in
    ap (λ (x : Side). array_of (moved_sums (sums_of s.s) (pair_at s.w) x)) (sym (side_zero s.from c.if-from-eq0.true))

pub returns-else-from-eq0 : goal.returns-else-from-eq0
returns-else-from-eq0 c = ap (λ (x : Side). array_of (moved_sums (sums_of c.args.s) (pair_at c.args.w) x)) (sym (side_one c.args.from c.requires.0 c.if-from-eq0.false))
