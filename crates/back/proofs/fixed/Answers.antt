use native.Mathlib.Omega.{arith}
use mathlib.Core.Path.{◌∙◌}
use lib.ListN.{get_or}
use Rattle.meaning.specs.Answer.{division_of}
use Rattle.back.proofs.Classes.{index_more, index-small, bit_le, digit_small}
use Rattle.back.proofs.fixed.Goals as goal

pub class-low-requires : goal.class-low-requires
class-low-requires c =
    let a = c.args in
    let l = c.loop-i in
    let d = division_of a.sides.now in
    let side = bit_le c.side_of.result (d (get_or a.list.now l.i 0)) c.side_of.ensures in
    let head = bit_le c.side_of-head.result (d (get_or a.list.now 0 0)) l.invariant.1 in
    (omega arith, omega arith, rw l.invariant.0 (index-small a.list.now l.i (omega arith) d), digit_small c.side_of.result c.side_of-head.result side head)

pub loop-i-preserved : goal.loop-i-preserved
loop-i-preserved c =
    let a = c.args in
    let l = c.loop-i in
    let low =
    c.class-low.ensures.0
    ∙ index_more a.list.now l.i (omega arith) (omega arith) (division_of a.sides.now) l.low c.side_of-head.result c.side_of.result
    l.invariant.0 l.invariant.1 c.side_of.ensures in
    (low, l.invariant.1)
