use Prim.Native.Nat.{◌<◌}
use native.Mathlib.Omega.{arith}
use lib.ListN.{length}
use Rattle.back.proofs.Settled.{settled_none, settled-first}
use Rattle.back.proofs.settle.Goals as goal

pub returns-then-s-list : goal.returns-then-s-list
returns-then-s-list c =
    let a = c.args in
    settled_none a.col.now a.list.now a.s a.sides.now c.if-s-list.true c.requires.by_index_2

pub returns-then-s-eq0 : goal.returns-then-s-eq0
returns-then-s-eq0 c =
    let a = c.args in
    let pre = c.requires in
    let w = c.from-r in
    let in_sides : w.result < length a.sides.now = omega (arith, pre.by_index 0 (omega arith), w.ensures) in
    settled-first a.col.now a.list.now a.s a.sides.now pre.few.2 pre.col_len (omega arith) c.if-s-eq0.true w.result
    w.ensures in_sides c.settle_from.new.sides c.settle_from.ensures
