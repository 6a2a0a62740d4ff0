use native.Mathlib.Omega.{arith}
use Prim.Native.Nat.{◌/◌, ◌<◌}
use lib.Bits.{bit_xor}
use lib.ListN.{get_or}
use mathlib.Core.Path.{sym, ◌∙◌}
use Rattle.fold.proofs.Steps.{digit_kept}
use Rattle.column.proofs.Laws.{and_one}
use Rattle.column.proofs.Steps.{used-small, first_of_three, second_of_three, third_of_three, walked_three}
use Rattle.column.proofs.Column.three.Goals as goal

pub overflow_add-n1 : goal.overflow_add-n1
overflow_add-n1 c =
    -- the steps' numbers are small
    let small : c.args.x.n < 2048 = omega (arith, c.requires.2, used-small c.args.self.now.p c.requires.3.at.few) in
    omega (arith, small)

pub step-a-requires : goal.step-a-requires
step-a-requires c = let s = c.requires in first_of_three s.0 s.1 s.2 s.3

pub overflow_add-n2 : goal.overflow_add-n2
overflow_add-n2 c =
    let small : c.args.x.n < 2048 = omega (arith, c.requires.2, used-small c.args.self.now.p c.requires.3.at.few) in
    omega (arith, small)

pub step-b-requires : goal.step-b-requires
step-b-requires c = second_of_three {q = bit_xor c.args.x.q (get_or c.args.self.now.turn.now 1 0)} c.requires.0 c.requires.1 c.requires.2 (and_one (c.args.x.k / 2) ∙ sym (digit_kept c.args.x.k 0 1 (λ e. omega arith))) c.step-a.ensures

pub overflow_add-n3 : goal.overflow_add-n3
overflow_add-n3 c =
    let small : c.args.x.n < 2048 = omega (arith, c.requires.2, used-small c.args.self.now.p c.requires.3.at.few) in
    omega (arith, small)

pub step-requires : goal.step-requires
step-requires c = third_of_three {q = bit_xor (bit_xor c.args.x.q (get_or c.args.self.now.turn.now 1 0)) (get_or c.args.self.now.turn.now 2 0)} c.requires.0 c.requires.1 c.requires.2 c.step-b.ensures

pub returns : goal.returns
returns c =
    let s = c.args in
    walked_three s.x.n s.x.k s.x.q (get_or s.self.now.turn.now 1 0) (get_or s.self.now.turn.now 2 0) c.step.ensures
