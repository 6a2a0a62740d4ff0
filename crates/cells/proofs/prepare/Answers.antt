use native.Mathlib.Omega.{arith}
use mathlib.Core.Path.{◌≡◌, refl, ap, ◌∙◌}
use Prim.Native.Nat.{ℕ, ◌-◌, ◌≤◌, ◌<◌}
use lib.Dec.{ltb}
use mir.Val.{bool_byte}
use mathlib.Core.Bool.{Bool}
use lib.Pow.{pow_pos}
use lib.ListN.{length, length-set}
use Rattle.meaning.specs.Numbers.{bit}
use Rattle.layout.specs.Places.{first_at}
use Rattle.fold.specs.Turn.{starts_before, shared_to}
use Rattle.fold.proofs.Count.{byte_bit, bit_lt, count_le}
use Rattle.fold.proofs.Masks.{Masks, masks_none, masks_more, masks_all}
use Rattle.sums.specs.Sums.{pair_of}
use Rattle.cells.proofs.Pairs.{pairs_none, pairs_more}
use Rattle.cells.proofs.Cells.{taken_cell, here_listed}
use Rattle.cells.proofs.prepare.Goals as goal

-- fewer than 12 digits are set before the read, and it sets one at most
few_seen : (shares : ℕ → Bool) (t : Bool) {seen i p b : ℕ} → seen ≡ shared_to shares i → i < p → p ≤ 12 → b ≡ bool_byte t
    → (seen < 12) × (b ≤ 1)
few_seen shares t {seen} {i} e l h s = omega (arith, e, count_le shares i, s, byte_bit t, bit_lt t)

pub loop-i-init : goal.loop-i-init
loop-i-init c = (omega arith, pairs_none _ _ _, masks_none _ _ (omega arith))

pub overflow_sub-e : goal.overflow_sub-e
overflow_sub-e c =
    let h = here_listed c.args.placed.now c.requires c.loop-i.i c.loop-i-test.true c.from-r.ensures in omega (arith, h.begun, h.goes_on)

pub overflow_mul-e : goal.overflow_mul-e
overflow_mul-e c =
    omega (arith, (here_listed c.args.placed.now c.requires c.loop-i.i c.loop-i-test.true c.from-r.ensures).inside)

pub overflow_add-e : goal.overflow_add-e
overflow_add-e c =
    omega (arith, (here_listed c.args.placed.now c.requires c.loop-i.i c.loop-i-test.true c.from-r.ensures).inside)

pub slice_bounds-weights-end : goal.slice_bounds-weights-end
slice_bounds-weights-end c =
    omega (arith, (here_listed c.args.placed.now c.requires c.loop-i.i c.loop-i-test.true c.from-r.ensures).inside)

pub overflow_sub-j : goal.overflow_sub-j
overflow_sub-j c =
    (here_listed c.args.placed.now c.requires c.loop-i.i c.loop-i-test.true c.from-r.ensures).begun

pub weights-x-requires : goal.weights-x-requires
weights-x-requires c =
    let here = here_listed c.args.placed.now c.requires c.loop-i.i c.loop-i-test.true c.from-r.ensures in
    let k = taken_cell here _ refl in
    (k.0, k.1)

pub own-requires : goal.own-requires
own-requires c =
    let shares = starts_before (first_at c.args.placed.now.places.now) c.args.list.now c.args.j in
    omega (arith, few_seen shares _ c.loop-i.invariant.2.count c.loop-i-test.true c.requires.few c.from-b.ensures)

pub overflow_add-seen : goal.overflow_add-seen
overflow_add-seen c =
    let shares = starts_before (first_at c.args.placed.now.places.now) c.args.list.now c.args.j in
    omega (arith, few_seen shares _ c.loop-i.invariant.2.count c.loop-i-test.true c.requires.few c.from-b.ensures)

pub loop-i-preserved : goal.loop-i-preserved
loop-i-preserved c =
    let here = here_listed c.args.placed.now c.requires c.loop-i.i c.loop-i-test.true c.from-r.ensures in
    let l = c.loop-i in
    let below : l.i < 12 = omega (arith, c.loop-i-test.true, c.requires.few) in
    let x = c.weights-x.ensures in
    let k = taken_cell here _ refl in
    let f = ap (first_at c.args.placed.now.places.now) c.from-r.ensures in
    let shared = c.from-b.ensures ∙ byte_bit _ ∙ ap (λ (n : ℕ). bit (ltb n c.args.j)) f in (
      simp length-set l.invariant.0,
      pairs_more _ l.i _ _ _ (omega (arith, l.invariant.0)) l.invariant.1 (x.value ∙ ap pair_of k.2) x.l_bound,
      masks_more _ l.turn l.seen l.head l.i _ _ _ below shared c.lead-head.ensures c.own.ensures l.invariant.2,
    )

pub entries-requires : goal.entries-requires
entries-requires c =
    let l = c.loop-i in
    let shares = starts_before (first_at c.args.placed.now.places.now) c.args.list.now c.args.j in
    omega (arith, l.invariant.2.count, count_le shares l.i, c.requires.few)

pub overflow_sub-turn : goal.overflow_sub-turn
overflow_sub-turn c = omega (arith, c.entries.ensures, pow_pos (c.loop-i.seen - 1))

pub returns : goal.returns
returns c =
    let l = c.loop-i in
    let e : l.i ≡ length c.args.list.now = omega arith in
    let shares = starts_before (first_at c.args.placed.now.places.now) c.args.list.now c.args.j in
    let m : Masks shares l.turn l.seen l.head (length c.args.list.now) = rw e at l.invariant.2 in
    record {
      value = m.count;
      by_index = λ i k. l.invariant.1.each i (omega arith);
      light_pairs = λ i k. l.invariant.1.light i (omega arith);
      by_index_2 = masks_all _ (length c.args.list.now) l.turn l.seen l.head _ m (ap (λ (n : ℕ). n - 1) c.entries.ensures);
    }
