use native.Mathlib.Omega.{arith}
use Prim.Native.Nat.{ℕ, suc, ◌-◌, ◌*◌, ◌/◌, ◌≤◌, ◌<◌}
use mathlib.Core.Path.{◌≡◌, sym, ap, ◌∙◌, subst}
use native.Mathlib.Nat.{le_trans}
use mathlib.Core.List.{List}
use lib.ListN.{length, take, drop}
use lib.Pow.{pow_pos}
use lib.Seq.{get_or-set_same}
use Rattle.meaning.specs.Active.{used}
use Rattle.meaning.specs.Rule.{least_at}
use Rattle.layout.specs.declared.runs.Column.{Column}
use Rattle.layout.specs.Lists.{count_at}
use Rattle.table.proofs.Sizes.{column_at, column_read}
use Rattle.table.proofs.Handed.{carry_fits, handed_on, handed_none, handed_next}
use mathlib.Core.Logic.{◌≢◌}
use Rattle.table.specs.Taken.{Handing}
use Rattle.table.proofs.take_over.Goals as goal

-- the plain numbers of the column before, of which q reads are read
record Before (lists : List Column) (j t s q : ℕ) (work : List ℕ) : Type 0 where
  counted : q ≡ count_at lists (j - 1)
  few : q ≤ 12
  shared : s ≤ q
  fits : used q ≤ t
  written : suc (j - 1) * t ≤ length work

listed : {lists : List Column} {j t s : ℕ} {work taken : List ℕ} → Handing lists j t s work taken → j ≢ 0 → j - 1 < length lists
listed h n = h.listed (omega (arith, n))

before_column : {lists : List Column} {j t s q : ℕ} {work taken : List ℕ} → Handing lists j t s work taken → j ≢ 0
    → q ≡ (column_at lists (j - 1)).count → Before lists j t s q work
before_column {lists} {j} {t} {s} {q} {work} h n e =
    let p : 0 < j = omega (arith, n) in
    let c : q ≡ count_at lists (j - 1) = e ∙ ap (λ (x : Column). x.count) (column_read lists (j - 1) (h.listed p)) in
    let next : j ≡ suc (j - 1) = omega arith in
    record {
      counted = c;
      few = subst (λ (x : ℕ). x ≤ 12) (sym c) (h.few p);
      shared = subst (λ (x : ℕ). s ≤ x) (sym c) (h.shared p);
      fits = subst (λ (x : ℕ). used x ≤ t) (sym c) (h.fits p);
      written = subst (λ (x : ℕ). x * t ≤ length work) next h.written;
    }

pub bounds-taken-0 : goal.bounds-taken-0
bounds-taken-0 c =
    -- there is room for what is handed on
    let some : 0 < length c.args.taken.now = le_trans (pow_pos (c.args.s - 1)) c.requires.room in
    omega (arith, some)

pub returns-then-j-eq0 : goal.returns-then-j-eq0
returns-then-j-eq0 c =
    let some : 0 < length c.args.taken.now = le_trans (pow_pos (c.args.s - 1)) c.requires.room in
    handed_none _ c.args.j _ _ _ _ c.if-j-eq0.true (get_or-set_same c.args.taken.now 0 0 0 (omega (arith, some)))

pub bounds-lists-i : goal.bounds-lists-i
bounds-lists-i c = omega (arith, listed c.requires c.if-j-eq0.false)

pub overflow_mul-from : goal.overflow_mul-from
overflow_mul-from c = omega (arith, before_column c.requires c.if-j-eq0.false c.from-q.ensures)

pub entries-requires : goal.entries-requires
entries-requires c = omega (arith, before_column c.requires c.if-j-eq0.false c.from-q.ensures)

pub overflow_add-to : goal.overflow_add-to
overflow_add-to c = omega (arith, before_column c.requires c.if-j-eq0.false c.from-q.ensures, c.entries.ensures)

pub offset_bounds-work-from : goal.offset_bounds-work-from
offset_bounds-work-from c = omega (arith, before_column c.requires c.if-j-eq0.false c.from-q.ensures, c.entries.ensures)

pub slice_bounds-carry-end : goal.slice_bounds-carry-end
slice_bounds-carry-end c = omega (arith, before_column c.requires c.if-j-eq0.false c.from-q.ensures, c.entries.ensures)

pub entries-requires-2 : goal.entries-requires-2
entries-requires-2 c = omega (arith, before_column c.requires c.if-j-eq0.false c.from-q.ensures)

pub carry-requires : goal.carry-requires
carry-requires c =
    let b = before_column c.requires c.if-j-eq0.false c.from-q.ensures in
    let fits = carry_fits (c.args.j - 1) c.args.t c.args.work.now b.written c.from-q.result c.entries.result c.args.s c.entries-2.result
    c.entries.ensures c.entries-2.ensures b.shared b.fits c.args.taken.now c.requires.room in
    record { classes_nonzero = fits.0; part_nonzero = fits.1 }

pub returns : goal.returns
returns c =
    let b = before_column c.requires c.if-j-eq0.false c.from-q.ensures in
    handed_next _ c.args.j c.args.t c.args.s _ _ c.if-j-eq0.false
    (λ g l. handed_on (c.args.j - 1) c.args.t c.args.work.now b.written c.from-q.result c.entries.result c.args.s c.entries-2.result
    c.entries.ensures c.entries-2.ensures b.shared b.fits c.carry.new.taken c.carry.ensures g l
    ∙ ap (λ (x : ℕ). least_at (used c.args.s) (used x / used c.args.s) (take c.args.t (drop ((c.args.j - 1) * c.args.t) c.args.work.now)) g) b.counted)
