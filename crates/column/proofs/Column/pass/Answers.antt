use native.Mathlib.Omega.{arith}
use Prim.Native.Nat.{ℕ, ◌+◌, ◌-◌, ◌%◌, ◌≤◌, ◌<◌}
use lib.Count.{count_trailing_zeros}
use lib.ListN.{length, get_or, set, length-set}
use lib.Pow.{pow_mono}
use mathlib.Core.Path.{◌≡◌, refl, ap, ◌∙◌}
use Rattle.meaning.specs.Active.{used}
use Rattle.plain.proofs.Laws.{one_shl}
use Rattle.column.specs.Pass.{Room}
use Rattle.column.specs.Walk.{level_in, At, ColumnWalked}
use Rattle.column.proofs.Laws.{and_one, level_low}
use Rattle.column.specs.declared.Column.{Column}
use Rattle.sums.specs.Sums.{sums_of, array_of, sums_with}
use Rattle.sums.specs.Level.{raised}
use Rattle.meaning.specs.Charge.{charge_of}
use mathlib.Core.List.{List}
use mathlib.Core.Bool.{false}
use Rattle.column.proofs.Steps.{used-small, used_four, used_fours, step_inside, step_outside, at_start, at-fits, walked_start, walked_all, first-turns}
use Rattle.column.proofs.Column.pass.Goals as goal

-- at index 0
first_at : (c : Column) → Room c.turn.now c.p c.taken.now → (s : List (List ℕ)) → s ≡ array_of (raised (sums_with c.w.now c.p (λ i. false)) (level_in c)) → At c.w.now c.turn.now c.p (level_in c) c.taken.now s 0 0
first_at c room s e = at_start c.few c.light (level_low c.heterozygous c.w.now c.p c.few c.light) room e

-- its entry is written
first_done : (c : Column) → Room c.turn.now c.p c.taken.now → (s : List (List ℕ)) (part : List ℕ) (v : ℕ) → s ≡ array_of (raised (sums_with c.w.now c.p (λ i. false)) (level_in c)) → used c.p ≤ length part
    → v ≡ charge_of (sums_of s) + get_or c.taken.now 0 0 → ColumnWalked c 1 (set part 0 v) s 0 0
first_done c room s part v e inside is = walked_start c.w.now c.turn.now (level_in c) c.taken.now part c.p (first_at c room s e) inside v is

-- step n is one of the walk's, and so are the three after it
still_inside : (c : Column) (n d : ℕ) (part : List ℕ) (s : List (List ℕ)) (k q : ℕ) → 3 ≤ c.p → n % 4 ≡ 0 → n ≤ used c.p → d ≡ count_trailing_zeros 64 n → d < c.p - 1
    → ColumnWalked c n part s k q → (n + 3 < used c.p) × (used c.p ≤ 2048)
still_inside c n d part s k q l fours le is inside h =
    (used_fours c.p n l fours (step_inside c.p n d c.few le is inside), used-small c.p c.few)

pub entry-requires : goal.entry-requires
entry-requires c =
    at-fits (first_at c.args.self.now c.requires.room _ c.requires.start_value)

pub bounds-part-0 : goal.bounds-part-0
bounds-part-0 c =
    omega (arith, (first_at c.args.self.now c.requires.room _ c.requires.start_value).below, c.requires.p_in_bounds)

pub step-requires : goal.step-requires
step-requires c =
    first-turns c.if-p-eq2.true (first_done c.args.self.now c.requires.room _ c.args.part.now _ c.requires.start_value c.requires.p_in_bounds c.entry.ensures)

pub shape_of-part-then-p-eq2 : goal.shape_of-part-then-p-eq2
shape_of-part-then-p-eq2 c = simp length-set at c.step.auto.part

pub returns-then-p-eq2 : goal.returns-then-p-eq2
returns-then-p-eq2 c = walked_all c.step.ensures (let two = ap used c.if-p-eq2.true in omega arith)

pub returns-else-p-eq2 : goal.returns-else-p-eq2
returns-else-p-eq2 c =
    let few : c.args.self.now.p - 1 ≤ 0 = omega (arith, c.if-p-eq2.false) in
    walked_all (first_done c.args.self.now c.requires.room _ c.args.part.now _ c.requires.start_value c.requires.p_in_bounds c.entry.ensures) (pow_mono few)

pub three-s-requires : goal.three-s-requires
three-s-requires c =
    let h = (first_done c.args.self.now c.requires.room _ c.args.part.now _ c.requires.start_value c.requires.p_in_bounds c.entry.ensures) in
    (omega (arith, c.if-p-lt3.false), refl, h.at.below, h)

pub loop-d-init : goal.loop-d-init
unfolding count_trailing_zeros
loop-d-init c = (omega arith, refl, used_four c.args.self.now.p (omega (arith, c.if-p-lt3.false)), refl, refl, c.three-s.ensures)

pub overflow_sub-p : goal.overflow_sub-p
overflow_sub-p c = omega (arith, c.if-p-lt3.false)

pub overflow_shr-from : goal.overflow_shr-from
overflow_shr-from c = omega (arith, c.loop-d-test.true, c.loop-d.invariant.5.at.few)

pub step-t-requires : goal.step-t-requires
step-t-requires c =
    let below = still_inside c.args.self.now _ _ _ _ _ _ c.if-p-lt3.false c.loop-d.invariant.1 c.loop-d.invariant.2 c.loop-d.invariant.3 c.loop-d-test.true c.loop-d.invariant.5 in
    let l = c.loop-d in
    record { some = l.invariant.0; below = omega (arith, below); lowest = l.invariant.3; side = and_one _; walked = l.invariant.5 }

pub overflow_shl-k : goal.overflow_shl-k
overflow_shl-k c = omega (arith, c.loop-d-test.true, c.loop-d.invariant.5.at.few)

pub three-u-requires : goal.three-u-requires
three-u-requires c =
    let below = still_inside c.args.self.now _ _ _ _ _ _ c.if-p-lt3.false c.loop-d.invariant.1 c.loop-d.invariant.2 c.loop-d.invariant.3 c.loop-d-test.true c.loop-d.invariant.5 in
    let l = c.loop-d in
    let few = l.invariant.5.at.few in (
      omega (arith, c.if-p-lt3.false),
      l.invariant.1,
      omega (arith, below),
      rw (one_shl l.d (omega (arith, few, c.loop-d-test.true))) c.step-t.ensures,
    )

pub overflow_add-n : goal.overflow_add-n
overflow_add-n c =
    let below = still_inside c.args.self.now _ _ _ _ _ _ c.if-p-lt3.false c.loop-d.invariant.1 c.loop-d.invariant.2 c.loop-d.invariant.3 c.loop-d-test.true c.loop-d.invariant.5 in
    omega (arith, below)

pub digit-d-requires : goal.digit-d-requires
digit-d-requires c =
    let below = still_inside c.args.self.now _ _ _ _ _ _ c.if-p-lt3.false c.loop-d.invariant.1 c.loop-d.invariant.2 c.loop-d.invariant.3 c.loop-d-test.true c.loop-d.invariant.5 in
    (omega arith, omega (arith, below))

pub loop-d-smaller : goal.loop-d-smaller
loop-d-smaller c =
    let below = still_inside c.args.self.now _ _ _ _ _ _ c.if-p-lt3.false c.loop-d.invariant.1 c.loop-d.invariant.2 c.loop-d.invariant.3 c.loop-d-test.true c.loop-d.invariant.5 in
    omega (arith, below)

pub loop-d-preserved : goal.loop-d-preserved
loop-d-preserved c =
    let below = still_inside c.args.self.now _ _ _ _ _ _ c.if-p-lt3.false c.loop-d.invariant.1 c.loop-d.invariant.2 c.loop-d.invariant.3 c.loop-d-test.true c.loop-d.invariant.5 in
    let l = c.loop-d in (
      omega arith,
      omega (arith, l.invariant.1),
      omega (arith, below),
      c.digit-d.ensures.0,
      c.three-u.auto.part ∙ c.step-t.auto.part ∙ l.invariant.4,
      c.three-u.ensures,
    )

pub shape_of-part : goal.shape_of-part
shape_of-part c = c.loop-d.invariant.4 ∙ simp length-set at c.three-s.auto.part

pub returns : goal.returns
returns c =
    let l = c.loop-d in
    walked_all l.invariant.5 (step_outside _ l.n l.d l.invariant.0 l.invariant.3 c.loop-d-test.false)
