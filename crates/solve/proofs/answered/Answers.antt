use mathlib.Core.Path.{sym}
use native.Mathlib.Nat.{le_trans, le_of_eq}
use Rattle.meaning.specs.Letters.{charge_in, mode_of}
use Rattle.layout.specs.Matrices.{matrix_of}
use Rattle.layout.proofs.Laws.{count_is}
use Rattle.ready.proofs.Refused.{columns-right}
use Rattle.solve.proofs.Calls.{output_call, cost-call}
use Rattle.solve.proofs.answered.Goals as goal

pub returns-then-out-size : goal.returns-then-out-size
returns-then-out-size c =
    let r = c.args.placed.now.reads in
    output_call (mode_of c.args.heterozygous) (matrix_of r) c.args.work.now c.args.out.now c.args.t c.requires.thin_columns c.requires.n_in_bounds.2 r.shape.n
    (count_is r.shape r.bytes.now) c.if-out-size.true

pub tabled-requires : goal.tabled-requires
tabled-requires c = record { lists_room = c.requires.lists_room; thin_columns = c.requires.thin_columns; n_in_bounds = (c.requires.n_in_bounds.0, c.requires.n_in_bounds.2) }

pub write_answer-cost-requires : goal.write_answer-cost-requires
write_answer-cost-requires c =
    let f = c.tabled in
    record {
      right = columns-right (charge_in (mode_of c.args.heterozygous)) (matrix_of c.args.placed.now.reads) c.args.work.now _ f.ensures.work_after;
      tally_room = le_trans c.requires.n_in_bounds.1 (le_of_eq (sym f.auto.taken));
      m_in_bounds = c.if-out-size.false;
    }

pub returns : goal.returns
returns c =
    let r = c.args.placed.now.reads in
    let f = c.tabled in
    let w = c.write_answer-cost in
    cost-call (mode_of c.args.heterozygous) (matrix_of r) c.args.work.now c.args.out.now c.args.t c.requires.thin_columns c.requires.n_in_bounds.2 r.shape.n
    (count_is r.shape r.bytes.now) f.new.work w.new.out w.result c.if-out-size.false w.ensures.value f.ensures.work_after w.ensures.out_after
