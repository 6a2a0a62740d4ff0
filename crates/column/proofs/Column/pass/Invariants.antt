use Prim.Native.Nat.{◌-◌, ◌%◌, ◌≤◌, ◌<◌}
use lib.Count.{count_trailing_zeros}
use lib.ListN.{length}
use mathlib.Core.Path.{◌≡◌}
use Rattle.meaning.specs.Active.{used}
use Rattle.column.specs.Walk.{ColumnWalked}
use Rattle.column.proofs.Column.pass.Given as goal

abbrev pub invariant-loop-d : goal.invariant-loop-d
invariant-loop-d l = (0 < l.n) × (l.n % 4 ≡ 0) × (l.n ≤ used l.self.p) × (l.d ≡ count_trailing_zeros 64 l.n) × (length l.part ≡ length l.initial.part) × ColumnWalked l.self l.n l.part l.s l.k l.q

abbrev pub decreases-loop-d : goal.decreases-loop-d
decreases-loop-d l = used l.self.p - l.n
