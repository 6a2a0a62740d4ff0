use native.Mathlib.Omega.{arith}
use Rattle.plain.proofs.Laws.{one_shl}
use Rattle.plain.proofs.power.Goals as goal

pub returns : goal.returns
returns c = one_shl c.args.i (omega arith)
