use native.Mathlib.Omega.{arith}
use Prim.Native.Nat.{ℕ, ◌*◌, ◌≤◌, ◌<◌}
use mathlib.Core.Path.{◌≡◌, ap, ◌∙◌}
use mathlib.Core.List.{List}
use lib.ListN.{length}
use Rattle.meaning.specs.Letters.{charge_in, mode_of}
use Rattle.meaning.specs.Call.{laid}
use Rattle.layout.specs.Reads.{matrix_in}
use Rattle.layout.specs.Matrices.{matrix_of}
use Rattle.layout.specs.declared.reads.Listed.{Listed}
use Rattle.layout.specs.Places.{first_at}
use Rattle.fold.specs.Turn.{starts_before, shared_to}
use Rattle.meaning.specs.Active.{entries}
use Rattle.meaning.specs.Closing.{active_reads}
use Rattle.layout.specs.declared.reads.Reads.{Reads}
use Rattle.table.specs.Taken.{HandedOn, shared_before, TakenBefore}
use Rattle.table.proofs.Sizes.{ColumnSizes, column_sizes}
use Rattle.table.proofs.Handed.{handing, handed}
use Rattle.table.proofs.Columns.{cells-laid, shared_are, fill_fits, pass_laid}
use Rattle.table.proofs.Filled.{before_fits, before_over}
use Rattle.table.proofs.column_by_rule.Goals as goal

module _ (l : Listed) {j t : ℕ} (h : (j < l.reads.shape.m) × (t ≡ entries (matrix_of l.reads))) where
  -- the plain numbers of column j
  sizes : ColumnSizes l.reads.shape l.reads.bytes.now l.places.now l.lists.now l.ready j t
  sizes = column_sizes _ _ _ _ l.ready j t h.0 h.1

  module _ {s : ℕ} {list : List ℕ} (here : list ≡ active_reads (matrix_of l.reads) j)
      (e : s ≡ shared_to (starts_before (first_at l.places.now) list j) (length list)) where
    -- how many of its reads are shared
    shared : s ≡ length (shared_before (matrix_of l.reads) j)
    shared = shared_are _ _ _ _ l.ready j h.0 _ here s e

    -- what it takes over
    taken_over : (work taken : List ℕ) → HandedOn l.lists.now j t s work taken → TakenBefore (matrix_of l.reads) j work taken
    taken_over = handed _ _ _ _ l.ready j t s h.0 h.1 shared

pub prepare-s-requires : goal.prepare-s-requires
prepare-s-requires c =
    cells-laid _ _ _ _ c.args.listed.now.ready c.args.at.j c.requires.j_lt_m.0 _ c.active_reads-list.ensures
    c.placed.result (ap (λ (r : Reads). r.shape) c.placed.ensures.0) (ap (λ (r : Reads). r.bytes.now) c.placed.ensures.0)

pub take_over-requires : goal.take_over-requires
take_over-requires c =
    let shares = shared c.args.listed.now c.requires.j_lt_m c.active_reads-list.ensures (rw c.placed.ensures.1 at c.prepare-s.ensures.value) in
    handing _ _ _ _ c.args.listed.now.ready c.args.at.j c.args.at.t c.prepare-s.result c.requires.j_lt_m.0 c.requires.j_lt_m.1 shares c.args.work.now c.args.taken.now
    c.requires.t_in_bounds.0 c.requires.t_in_bounds.1

pub overflow_mul-from : goal.overflow_mul-from
overflow_mul-from c = omega (arith, sizes c.args.listed.now c.requires.j_lt_m)

pub overflow_add-to : goal.overflow_add-to
overflow_add-to c = omega (arith, sizes c.args.listed.now c.requires.j_lt_m)

pub offset_bounds-work-from : goal.offset_bounds-work-from
offset_bounds-work-from c = omega (arith, sizes c.args.listed.now c.requires.j_lt_m)

pub slice_bounds-fill-end : goal.slice_bounds-fill-end
slice_bounds-fill-end c = omega (arith, sizes c.args.listed.now c.requires.j_lt_m, c.requires.t_in_bounds.1)

pub fill-requires : goal.fill-requires
fill-requires c =
    let taken = taken_over c.args.listed.now c.requires.j_lt_m c.active_reads-list.ensures (rw c.placed.ensures.1 at c.prepare-s.ensures.value) _ _ c.take_over.ensures in
    let g = c.prepare-s in
    let k : length c.take_over.new.taken ≡ length c.args.taken.now = c.take_over.auto.taken in
    let r : c.args.at.t ≤ length c.args.taken.now = c.requires.t_in_bounds.0 in
    let turned = λ (i : ℕ) (k : i < length c.active_reads-list.result.now). rw c.placed.ensures.1 at (c.prepare-s.ensures.by_index_2 i k) in
    let fits = fill_fits _ _ _ _ c.args.listed.now.ready c.args.at.j c.requires.j_lt_m.0 _ c.active_reads-list.ensures
    g.new.turn turned c.args.at.t c.requires.j_lt_m.1 c.take_over.new.taken c.args.work.now c.requires.t_in_bounds.1
    (before_fits _ _ _ _ c.args.listed.now.ready c.args.at.j c.args.at.t c.requires.j_lt_m.0 c.requires.j_lt_m.1 c.args.work.now c.take_over.new.taken (omega arith) taken c.requires.k_bound) in
    record { room = fits.0; p_in_bounds = fits.1 }

pub returns : goal.returns
returns c =
    let taken = taken_over c.args.listed.now c.requires.j_lt_m c.active_reads-list.ensures (rw c.placed.ensures.1 at c.prepare-s.ensures.value) _ _ c.take_over.ensures in
    let g = c.prepare-s in
    let turned = λ (i : ℕ) (k : i < length c.active_reads-list.result.now). rw c.placed.ensures.1 at (c.prepare-s.ensures.by_index_2 i k) in
    let pairs = λ (i : ℕ) (k : i < length c.active_reads-list.result.now). rw c.placed.ensures.0 at (c.prepare-s.ensures.by_index i k) in
    pass_laid _ _ _ _ c.args.listed.now.ready c.args.at.j c.requires.j_lt_m.0 _ c.active_reads-list.ensures
    (mode_of c.args.at.heterozygous).charged c.args.at.t c.requires.j_lt_m.1 g.new.w g.new.turn
    c.take_over.new.taken c.args.work.now c.fill.new.part c.requires.t_in_bounds.1 pairs turned c.fill.ensures
    ∙ ap (λ (x : List ℕ). laid (c.args.at.j * c.args.at.t) x c.args.work.now)
    (before_over (charge_in (mode_of c.args.at.heterozygous)) (matrix_in c.args.listed.now.reads.shape c.args.listed.now.reads.bytes.now) c.args.at.j c.args.work.now c.take_over.new.taken taken)
