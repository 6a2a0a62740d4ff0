use native.Mathlib.Omega.{arith}
use mathlib.Core.Path.{◌≡◌, refl, sym, ◌∙◌}
use native.Mathlib.Nat.{le_trans, le_of_eq}
use Rattle.meaning.specs.Letters.{charge_in, mode_of}
use Rattle.meaning.proofs.Heterozygous.{mode_fair}
use Rattle.layout.specs.Reads.{matrix_in}
use Rattle.table.proofs.Sizes.{ready_placed}
use Rattle.table.proofs.Filled.{before_small, table_start, table_turn, table-end}
use Rattle.table.proofs.fill_table.Goals as goal

pub loop-j-init : goal.loop-j-init
loop-j-init c = (refl, refl, table_start (charge_in (mode_of c.args.heterozygous)) (matrix_in c.args.listed.now.reads.shape c.args.listed.now.reads.bytes.now) c.args.work.now)

pub column_by_rule-requires : goal.column_by_rule-requires
column_by_rule-requires c =
    let l = c.loop-j in
    let k = c.loop-j-test.true in record { j_lt_m = (k, c.requires.t_value); t_in_bounds = (le_trans c.requires.t_in_bounds.0 (le_of_eq (sym l.invariant.0)), le_trans c.requires.t_in_bounds.1 (le_of_eq (sym l.invariant.1))); k_bound = before_small _ _ _ _ c.args.listed.now.ready (mode_of c.args.heterozygous) (mode_fair c.args.heterozygous) c.args.listed.now.reads.fit l.j k c.args.work.now l.work l.invariant.2 }

pub loop-j-preserved : goal.loop-j-preserved
loop-j-preserved c =
    let l = c.loop-j in
    let k = c.loop-j-test.true in
    let r = c.column_by_rule in (
      r.auto.taken ∙ l.invariant.0,
      r.auto.work ∙ l.invariant.1,
      table_turn (mode_of c.args.heterozygous) (mode_fair c.args.heterozygous) (matrix_in c.args.listed.now.reads.shape c.args.listed.now.reads.bytes.now) (ready_placed _ _ _ _ c.args.listed.now.ready) l.j c.args.t c.requires.t_value k c.args.work.now l.work
          r.new.work c.requires.t_in_bounds.1 l.invariant.2 r.ensures,
    )

pub shape_of-taken : goal.shape_of-taken
shape_of-taken c = c.loop-j.invariant.0

pub shape_of-work : goal.shape_of-work
shape_of-work c = c.loop-j.invariant.1

pub returns : goal.returns
returns c =
    let l = c.loop-j in
    let e : l.j ≡ c.args.listed.now.reads.shape.m = omega (arith, c.loop-j-test.false) in
    table-end (charge_in (mode_of c.args.heterozygous)) (matrix_in c.args.listed.now.reads.shape c.args.listed.now.reads.bytes.now) l.j c.args.work.now l.work e l.invariant.2
