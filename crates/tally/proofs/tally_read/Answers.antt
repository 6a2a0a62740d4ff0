use native.Mathlib.Omega.{arith}
use mathlib.Core.Bool.{false}
use mathlib.Core.Path.{◌≡◌, ◌∙◌}
use Prim.Native.Nat.{ℕ, ◌+◌, ◌-◌, ◌*◌, ◌/◌, ◌%◌, ◌≤◌}
use mathlib.Core.List.{List}
use Rattle.meaning.specs.Numbers.{big_endian}
use lib.ListN.{get_or}
use Rattle.meaning.specs.Block.{cell_at}
use Rattle.meaning.specs.Refusals.{bad_cell}
use Rattle.tally.specs.Tally.{unit}
use Rattle.tally.proofs.Turns.{Stored, letter-known, cell_more, cell_room, none_added}
use Rattle.tally.proofs.tally_read.Goals as goal

-- where it is added, and what
storing : {size : ℕ} {cells : List ℕ} {i from side at letter weight v : ℕ}
    → bad_cell (cell_at size cells i) ≡ false
    → side ≤ 1
    → at ≡ 4 * (from + i) + 2 * side
    → letter ≡ get_or cells (size * i) 0
    → weight ≡ big_endian (size - 1) cells (size * i + 1)
    → v ≡ weight + (1 - letter / 2) * unit
    → Stored size cells i from side (at + letter % 2) v
storing fine small a e w t = record { fine = fine; small = small; where_is = rw (a, e); what_is = t ∙ rw (w, e) }

pub loop-i-init : goal.loop-i-init
loop-i-init c = (omega arith, none_added _ _ _ _ _)

pub added-requires : goal.added-requires
added-requires c =
    let known = letter-known _ _ _ (c.requires.sound c.loop-i.i c.loop-i-test.true) in
    (omega (arith, known), c.weight_at-weight.ensures.1)

pub overflow_add-tally : goal.overflow_add-tally
overflow_add-tally c =
    let l = c.loop-i in
    let stored = storing (c.requires.sound l.i c.loop-i-test.true) c.requires.columns.3 l.invariant.0 c.from-letter.ensures c.weight_at-weight.ensures.0 c.added.ensures in
    let room = cell_room _ _ _ stored c.args.tally.now l.tally 2000000000 l.invariant.1 c.requires.room in
    omega (arith, room, stored.what_is, c.weight_at-weight.ensures)

pub loop-i-preserved : goal.loop-i-preserved
loop-i-preserved c =
    let l = c.loop-i in
    let stored = storing (c.requires.sound l.i c.loop-i-test.true) c.requires.columns.3 l.invariant.0 c.from-letter.ensures c.weight_at-weight.ensures.0 c.added.ensures in
    (omega (arith, l.invariant.0), cell_more _ _ _ stored c.args.tally.now l.tally (omega (arith, stored.where_is)) l.invariant.1)
