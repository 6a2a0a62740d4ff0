use native.Mathlib.Omega.{arith}
use Prim.Native.Nat.{ℕ, ◌/◌}
use Rattle.std.proofs.Common.{rules}
use Rattle.tally.specs.Tally.{unit}
use lib.ListN.{get_or}
use mathlib.Core.Bool.{true, false}
use mathlib.Core.List.{List}
use mathlib.Core.Path.{ap}
use Rattle.meaning.specs.Letters.{mode_of}
use Rattle.sums.specs.Sums.{sums_of}
use Rattle.letters.proofs.Sides.{choices_of, reported_chosen, margin_chosen, against-few}
use Rattle.letters.proofs.Parts.{lettered}
use Rattle.letters.proofs.letters_at.Goals as goal

pub overflow_add-result : goal.overflow_add-result
overflow_add-result c =
    let w = sums_of c.sums-s.result in
    let mode = mode_of c.args.heterozygous in
    let both = c.letters_of-l.ensures w c.choices-c.ensures in
    let has = c.type_inv.tally in
    let counts = c.parts_at-n.ensures (λ (x : ℕ). x / unit) (λ x y post. search rules) in
    let x = against-few _ _ _ _ (mode.letter w false) (ap (λ (l : List ℕ). get_or l 0 0) both) (rw counts at c.against-x.ensures) (has _).fits (has _).fits in
    let y = against-few _ _ _ _ (mode.letter w true) (ap (λ (l : List ℕ). get_or l 1 0) both) (rw counts at c.against-y.ensures) (has _).fits (has _).fits in
    omega (arith, x, y)

pub returns : goal.returns
returns c M sides of inside =
    let b = c.args.heterozygous in
    let counts = c.parts_at-n.ensures (λ (x : ℕ). x / unit) (λ x y post. search rules) in
    let total = choices_of b _ _ _ (c.sums-s.ensures.value M sides of inside) c.choices-c.ensures in
    let both = c.letters_of-l.ensures _ total in
    lettered M sides _ of _ inside (mode_of b) _ _ _ _ _ _
    (reported_chosen _ _ b total false _ c.reported-f.ensures)
    (reported_chosen _ _ b total true _ c.reported-g.ensures)
    (ap (λ (l : List ℕ). get_or l 0 0) both)
    (ap (λ (l : List ℕ). get_or l 1 0) both)
    (rw counts at c.against-x.ensures)
    (rw counts at c.against-y.ensures)
    _
    (margin_chosen _ _ b total false _ c.margins_of.ensures.0)
    (margin_chosen _ _ b total true _ c.margins_of.ensures.1)
