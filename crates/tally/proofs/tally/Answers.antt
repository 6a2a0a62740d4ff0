use native.Mathlib.Omega.{arith}
use Prim.Native.Nat.{◌≤◌}
use Rattle.layout.proofs.Cuts.{cut_noted}
use Rattle.tally.proofs.Walk.{weights, upto_none, upto_more, upto_small, tallied_all}
use Rattle.tally.proofs.tally.Goals as goal

pub loop-r-init : goal.loop-r-init
loop-r-init c = upto_none _ _ _ _ (c.fill.ensures.after (λ y e. e))

pub overflow_mul-e : goal.overflow_mul-e
overflow_mul-e c =
    let cut = cut_noted c.args.placed.now.reads.lawful c.args.placed.now.noted c.loop-r.r c.loop-r-test.true in
    omega (arith, cut.inside)

pub overflow_add-e : goal.overflow_add-e
overflow_add-e c =
    let cut = cut_noted c.args.placed.now.reads.lawful c.args.placed.now.noted c.loop-r.r c.loop-r-test.true in
    omega (arith, cut.inside)

pub slice_bounds-cells-end : goal.slice_bounds-cells-end
slice_bounds-cells-end c =
    let cut = cut_noted c.args.placed.now.reads.lawful c.args.placed.now.noted c.loop-r.r c.loop-r-test.true in
    omega (arith, cut.inside)

pub tally_read-requires : goal.tally_read-requires
tally_read-requires c =
    let p = c.args.placed.now in
    let l = c.loop-r in
    let cut = cut_noted p.reads.lawful p.noted l.r c.loop-r-test.true in
    let few : l.r ≤ 1024 = omega (arith, p.reads.lawful.few-reads) in
    record {
      columns = (cut.ordered, cut.sized, omega (arith, cut.within), c.side_of.ensures.0);
      sound = cut.cells_good;
      room = upto_small _ _ (weights p.reads) l.r l.tally few l.invariant;
    }

pub loop-r-preserved : goal.loop-r-preserved
loop-r-preserved c =
    let cut = cut_noted c.args.placed.now.reads.lawful c.args.placed.now.noted c.loop-r.r c.loop-r-test.true in
    upto_more _ _ c.loop-r.r _ _ c.loop-r.tally c.tally_read.new.tally cut.whole c.side_of.ensures.1 c.loop-r.invariant c.tally_read.ensures

pub returns : goal.returns
returns c = tallied_all c.args.placed.now.reads c.requires.thin c.args.sides.now c.loop-r.tally (omega arith) c.loop-r.r (omega arith) c.loop-r.invariant
