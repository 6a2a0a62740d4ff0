use native.Mathlib.Omega.{arith}
use Prim.Native.Nat.{ℕ, ◌≤◌}
use mathlib.Core.Bool.{true, false}
use mathlib.Core.Path.{◌≡◌, subst}
use Rattle.meaning.specs.Numbers.{sum_to}
use Rattle.meaning.specs.Charge.{Letter}
use Rattle.sums.specs.Sums.{weight_of}
use Rattle.sums.proofs.Laws.{leaf_none, leaf_more, leaf_end}
use Rattle.sums.proofs.sums.Goals as goal

pub loop-i-init : goal.loop-i-init
loop-i-init c = (leaf_none _, leaf_none _, omega arith, omega arith)

pub overflow_add-w0 : goal.overflow_add-w0
overflow_add-w0 c =
    -- read i's pair is light
    let light : (l : Letter) → weight_of c.args.w.now c.loop-i.i l ≤ 65535 = c.requires.1 c.loop-i.i c.loop-i-test.true in
    omega (arith, light false)

pub overflow_add-w1 : goal.overflow_add-w1
overflow_add-w1 c =
    let light : (l : Letter) → weight_of c.args.w.now c.loop-i.i l ≤ 65535 = c.requires.1 c.loop-i.i c.loop-i-test.true in
    omega (arith, light true)

pub loop-i-preserved : goal.loop-i-preserved
loop-i-preserved c =
    let light : (l : Letter) → weight_of c.args.w.now c.loop-i.i l ≤ 65535 = c.requires.1 c.loop-i.i c.loop-i-test.true in
    let l = c.loop-i in
    let w = c.args.w.now in
    let a = light false in
    let b = light true in
    let e = leaf_more l.i (λ j. weight_of w j false) in
    let g = leaf_more l.i (λ j. weight_of w j true) in
    (omega arith, omega arith, omega arith, omega arith)

pub returns : goal.returns
returns c =
    let s = c.args in
    let l = c.loop-i in
    let e : l.i ≡ s.p = omega arith in
    leaf_end s.w.now s.p l.w0 l.w1 (subst (λ (n : ℕ). l.w0 ≡ sum_to n (λ j. weight_of s.w.now j false)) e l.invariant.0) (subst (λ (n : ℕ). l.w1 ≡ sum_to n (λ j. weight_of s.w.now j true)) e l.invariant.1)
