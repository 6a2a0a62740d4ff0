use Prim.Native.Nat.{◌*◌, ◌≤◌}
use mathlib.Core.Bool.{true, false}
use mathlib.Core.Path.{◌≡◌}
use Rattle.meaning.specs.Numbers.{sum_to}
use Rattle.sums.specs.Sums.{weight_of}
use Rattle.sums.proofs.sums.Given as goal

abbrev pub invariant-loop-i : goal.invariant-loop-i
invariant-loop-i l = (l.w0 ≡ sum_to l.i (λ j. weight_of l.w j false)) × (l.w1 ≡ sum_to l.i (λ j. weight_of l.w j true)) × (l.w0 ≤ 65535 * l.i) × (l.w1 ≤ 65535 * l.i)
