use native.Mathlib.Omega.{arith}
use Prim.Native.Nat.{◌≤◌, ◌<◌}
use mathlib.Core.Path.{◌≡◌}
use lib.ListN.{length}
use Rattle.meaning.specs.Active.{used}
use Rattle.back.specs.Sides.{next_side}
use Rattle.back.proofs.Classes.{bit_le, digit_small, classes_whole}
use Rattle.back.proofs.Settled.{settling_low, settling_head, settling_more, settling_all}
use Rattle.back.proofs.settle_from.Goals as goal

pub first_side-side-requires : goal.first_side-side-requires
first_side-side-requires c =
    let l = c.loop-i in
    let low_small : l.low < used l.i = settling_low _ _ _ _ l.sides l.low c.side_of-head.result l.i (omega arith) l.invariant in
    let head_small : c.side_of-head.result ≤ 1 = settling_head _ _ _ _ l.sides l.low c.side_of-head.result l.i l.invariant in
    let a = c.args in
    let w = classes_whole l.i (length a.list.now) (length a.col.now) c.loop-i-test.true c.requires.col_len in
    record { i_nonzero = (omega arith, omega arith, low_small, head_small); i_value = (w.0, w.1) }

pub class-low-requires : goal.class-low-requires
class-low-requires c =
    let l = c.loop-i in
    let low_small : l.low < used l.i = settling_low _ _ _ _ l.sides l.low c.side_of-head.result l.i (omega arith) l.invariant in
    let head_small : c.side_of-head.result ≤ 1 = settling_head _ _ _ _ l.sides l.low c.side_of-head.result l.i l.invariant in
    let side-small : c.first_side-side.result ≤ 1 = bit_le c.first_side-side.result (next_side c.args.col.now l.low c.side_of-head.result l.i) c.first_side-side.ensures in
    (omega arith, omega arith, low_small, digit_small c.from.result c.side_of-head.result (omega (arith, c.from.ensures, side-small)) head_small)

pub loop-i-preserved : goal.loop-i-preserved
loop-i-preserved c =
    let a = c.args in
    let l = c.loop-i in
    let in_sides : c.from-r.result < length l.sides = omega (arith, c.requires.by_index l.i c.loop-i-test.true) in
    settling_more a.col.now a.list.now a.s a.sides.now c.requires.few.3 c.requires.col_len l.sides l.low
    c.side_of-head.result l.i (omega arith) (omega arith) l.invariant c.from-r.result c.first_side-side.result c.class-low.result
    c.from-r.ensures in_sides c.first_side-side.ensures (rw c.from.ensures at c.class-low.ensures.0)

pub returns : goal.returns
returns c =
    let a = c.args in
    let l = c.loop-i in
    let e : l.i ≡ length a.list.now = omega arith in
    settling_all a.col.now a.list.now a.s a.sides.now l.sides l.low c.side_of-head.result (rw e at l.invariant)
