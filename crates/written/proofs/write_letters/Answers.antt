use native.Mathlib.Omega.{arith}
use Rattle.meaning.specs.Letters.{mode_of}
use Rattle.layout.specs.Matrices.{matrix_of}
use Rattle.written.proofs.Lettering.{sides_lettered, written_none, written_more, written_all}
use Rattle.written.proofs.write_letters.Goals as goal

pub loop-j-init : goal.loop-j-init
loop-j-init c =
    let s = c.args.placed.now.reads.shape in
    written_none _ _ s.n s.m c.args.out.now c.requires.m_in_bounds.0

pub overflow_add-flips : goal.overflow_add-flips
overflow_add-flips c =
    let r = c.args.placed.now.reads in
    let l = c.loop-j in
    -- the letters and the flips of the column
    let told = sides_lettered r.shape.n c.args.out.now (mode_of c.args.heterozygous) (matrix_of r) _ c.tally.ensures l.j c.loop-j-test.true _ c.letters_at-x.ensures in
    omega (arith, r.shape.few_columns, told.flips-few, l.invariant.flips-few)

pub loop-j-preserved : goal.loop-j-preserved
loop-j-preserved c =
    let r = c.args.placed.now.reads in
    let l = c.loop-j in
    let told = sides_lettered r.shape.n c.args.out.now (mode_of c.args.heterozygous) (matrix_of r) _ c.tally.ensures l.j c.loop-j-test.true _ c.letters_at-x.ensures in
    written_more _ _ r.shape.n r.shape.m c.args.out.now c.requires.m_in_bounds.0 l.out l.flips l.j l.invariant c.loop-j-test.true _ told

pub returns : goal.returns
returns c =
    let s = c.args.placed.now.reads.shape in
    let l = c.loop-j in
    let all = written_all _ _ s.n s.m c.args.out.now c.requires.m_in_bounds.0 l.out l.flips l.j l.invariant (omega arith) in
    record { value = all.0; out_after = all.1 }
