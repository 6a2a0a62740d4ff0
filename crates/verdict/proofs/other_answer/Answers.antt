use native.Mathlib.Omega.{arith}
use Prim.Native.Nat.{◌+◌}
use mathlib.Core.Path.{refl, sym, ◌∙◌}
use Rattle.layout.specs.Matrices.{matrix_of}
use Rattle.layout.proofs.Laws.{count_is}
use Rattle.stated.proofs.Marks.{part_length}
use Rattle.stated.proofs.Ours.{ours_length, other_sides_told, same_sides_told}
use Rattle.verdict.proofs.other_answer.Goals as goal

pub other_sides-requires : goal.other_sides-requires
other_sides-requires c =
    let s = c.args.stated.now in
    let n = s.reads.shape.n in
    ours_length (matrix_of s.reads) s.answer.now s.reads.shape.m n s.sized refl (sym (count_is s.reads.shape s.reads.bytes.now)) _ c.requires
    ∙ sym (part_length s.answer.now 17 (17 + n) n (omega (arith, s.sized.whole)) refl)

pub returns-then-other_sides : goal.returns-then-other_sides
returns-then-other_sides c =
    let s = c.args.stated.now in
    sym c.if-other_sides.true
    ∙ other_sides_told (matrix_of s.reads) s.answer.now s.reads.shape.m s.reads.shape.n s.sized refl (sym (count_is s.reads.shape s.reads.bytes.now))
    _ c.requires _ c.other_sides.ensures c.if-other_sides.true

pub returns : goal.returns
returns c =
    let s = c.args.stated.now in
    same_sides_told (matrix_of s.reads) s.answer.now s.reads.shape.m s.reads.shape.n s.sized refl (sym (count_is s.reads.shape s.reads.bytes.now))
    _ c.requires _ c.other_sides.ensures c.if-other_sides.false _ c.other_letters.ensures
