use native.Mathlib.Omega.{arith}
use Prim.Native.Nat.{◌*◌}
use mathlib.Core.Path.{sym}
use native.Mathlib.Nat.{le_of_eq}
use lib.Seq.{length-take-le}
use Rattle.meaning.specs.Charge.{charge}
use Rattle.layout.specs.Matrices.{matrix_of}
use Rattle.ready.proofs.Refused.{columns-right}
use Rattle.judging.proofs.Results.{verdict-judging}
use Rattle.judging.proofs.judged.Goals as goal

pub tabled-requires : goal.tabled-requires
tabled-requires c = record { lists_room = c.requires.lists_room; thin_columns = c.requires.thin_columns; n_in_bounds = (c.requires.n_in_bounds.0, c.requires.n_in_bounds.3) }

pub judged-requires : goal.judged-requires
judged-requires c =
    let r = c.args.placed.now.reads in
    let f = c.tabled in
    -- the part of the scratch that the tally takes, and that of the room for sides
    let tally_room = length-take-le (4 * r.shape.m) f.new.taken (omega (arith, c.requires.n_in_bounds.1, f.auto.taken)) in
    let sides_room = length-take-le r.shape.n c.args.sides.now c.requires.n_in_bounds.2 in
    record {
      right = columns-right charge (matrix_of r) c.args.work.now _ f.ensures.work_after;
      m_in_bounds = (le_of_eq (sym tally_room), sym sides_room);
    }

pub returns : goal.returns
returns c =
    let f = c.tabled in
    verdict-judging (matrix_of c.args.placed.now.reads) c.args.answer.now c.args.work.now c.args.t c.requires.thin_columns f.new.work _
    c.requires.n_in_bounds.3 c.judged.ensures f.ensures.work_after
