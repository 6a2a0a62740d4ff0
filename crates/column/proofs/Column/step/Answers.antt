use native.Mathlib.Omega.{arith}
use Prim.Native.Nat.{◌+◌, ◌*◌, ◌%◌, ◌^◌, ◌<◌}
use lib.Bits.{bit_xor}
use lib.ListN.{get_or}
use mathlib.Core.Path.{◌≡◌, ap}
use Rattle.plain.proofs.Laws.{one_shl}
use Rattle.column.specs.Walk.{level_in, At}
use Rattle.column.proofs.Steps.{used-small, has_read, step_movable, step_at, at-fits, walked_step}
use Rattle.column.proofs.Column.step.Goals as goal

pub overflow_add-d : goal.overflow_add-d
overflow_add-d c = omega (arith, has_read c.requires)

pub offset_bounds-self-d : goal.offset_bounds-self-d
offset_bounds-self-d c = omega (arith, has_read c.requires)

pub bounds-self-d : goal.bounds-self-d
bounds-self-d c = omega (arith, has_read c.requires)

pub moved-t-requires : goal.moved-t-requires
moved-t-requires c = step_movable c.requires

pub overflow_shl-to : goal.overflow_shl-to
overflow_shl-to c = omega (arith, has_read c.requires)

pub overflow_add-folded : goal.overflow_add-folded
overflow_add-folded c = omega (arith, has_read c.requires)

pub offset_bounds-self-d-2 : goal.offset_bounds-self-d-2
offset_bounds-self-d-2 c = omega (arith, has_read c.requires)

pub bounds-self-d-2 : goal.bounds-self-d-2
bounds-self-d-2 c = omega (arith, has_read c.requires)

pub entry-requires : goal.entry-requires
entry-requires c =
    -- digit d turned, as the code has it, and the walk there
    let turned : bit_xor c.args.x.k (1 * 2 ^ c.args.d % 2 ^ 64) ≡ bit_xor c.args.x.k (2 ^ c.args.d) = ap (bit_xor c.args.x.k) (one_shl c.args.d (omega (arith, has_read c.requires))) in
    let next : At c.args.self.now.w.now c.args.self.now.turn.now c.args.self.now.p (level_in c.args.self.now) c.args.self.now.taken.now c.moved-t.result
    (bit_xor c.args.x.k (1 * 2 ^ c.args.d % 2 ^ 64)) (bit_xor c.args.x.q (get_or c.args.self.now.turn.now (c.args.d + 1) 0)) = step_at c.requires _ turned _ c.moved-t.ensures in
    at-fits next

pub offset_bounds-part-to : goal.offset_bounds-part-to
offset_bounds-part-to c =
    let turned : bit_xor c.args.x.k (1 * 2 ^ c.args.d % 2 ^ 64) ≡ bit_xor c.args.x.k (2 ^ c.args.d) = ap (bit_xor c.args.x.k) (one_shl c.args.d (omega (arith, has_read c.requires))) in
    let next : At c.args.self.now.w.now c.args.self.now.turn.now c.args.self.now.p (level_in c.args.self.now) c.args.self.now.taken.now c.moved-t.result
    (bit_xor c.args.x.k (1 * 2 ^ c.args.d % 2 ^ 64)) (bit_xor c.args.x.q (get_or c.args.self.now.turn.now (c.args.d + 1) 0)) = step_at c.requires _ turned _ c.moved-t.ensures in
    let h = next in omega (arith, h.below, used-small _ h.few)

pub bounds-part-to : goal.bounds-part-to
bounds-part-to c =
    let turned : bit_xor c.args.x.k (1 * 2 ^ c.args.d % 2 ^ 64) ≡ bit_xor c.args.x.k (2 ^ c.args.d) = ap (bit_xor c.args.x.k) (one_shl c.args.d (omega (arith, has_read c.requires))) in
    let next : At c.args.self.now.w.now c.args.self.now.turn.now c.args.self.now.p (level_in c.args.self.now) c.args.self.now.taken.now c.moved-t.result
    (bit_xor c.args.x.k (1 * 2 ^ c.args.d % 2 ^ 64)) (bit_xor c.args.x.q (get_or c.args.self.now.turn.now (c.args.d + 1) 0)) = step_at c.requires _ turned _ c.moved-t.ensures in
    omega (arith, next.below, c.requires.walked.inside)

pub returns : goal.returns
returns c =
    let turned : bit_xor c.args.x.k (1 * 2 ^ c.args.d % 2 ^ 64) ≡ bit_xor c.args.x.k (2 ^ c.args.d) = ap (bit_xor c.args.x.k) (one_shl c.args.d (omega (arith, has_read c.requires))) in
    let next : At c.args.self.now.w.now c.args.self.now.turn.now c.args.self.now.p (level_in c.args.self.now) c.args.self.now.taken.now c.moved-t.result
    (bit_xor c.args.x.k (1 * 2 ^ c.args.d % 2 ^ 64)) (bit_xor c.args.x.q (get_or c.args.self.now.turn.now (c.args.d + 1) 0)) = step_at c.requires _ turned _ c.moved-t.ensures in
    walked_step c.requires _ turned next _ c.entry.ensures
