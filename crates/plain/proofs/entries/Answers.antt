use native.Mathlib.Omega.{arith}
use Prim.Native.Nat.{◌-◌}
use mathlib.Core.Path.{sym, ap}
use Rattle.meaning.specs.Active.{used}
use Rattle.plain.proofs.Laws.{one_shl}
use Rattle.plain.proofs.entries.Goals as goal

pub returns-then-p-eq0 : goal.returns-then-p-eq0
returns-then-p-eq0 c = ap used (sym c.if-p-eq0.true)

pub returns-else-p-eq0 : goal.returns-else-p-eq0
returns-else-p-eq0 c = one_shl (c.args.p - 1) (omega arith)
