use native.Mathlib.Omega.{arith}
use native.Mathlib.Nat.{div-le_self, mul-le-mul_right}
use mathlib.Core.List.{List}
use mathlib.Core.Path.{◌≡◌, sym, ap, ◌∙◌}
use Prim.Native.Nat.{ℕ, ◌*◌, ◌-◌}
use lib.ListN.{drop, length-drop}
use Rattle.meaning.specs.Block.{first_field, cell_count}
use Rattle.meaning.proofs.ReadChecks.{NotRetired}
use Rattle.layout.proofs.Fields.{length_field_lem, first_field_lem}
use Rattle.reads.proofs.HeadChecks.{seen, is_whole, cut_off, too_small, unfilled, too_long, good_length, emptied, misplaced, too_far, well_placed, cells_lie}
use Rattle.reads.proofs.read_head.Goals as goal
use Rattle.reads.proofs.read_head.Goals.{then-count-eq0+else-shape-eq3+else-first-ne0, else-count-eq0}

pub returns-then-reads-at-lt2-clause-result_value : goal.returns-then-reads-at-lt2-clause-result_value
returns-then-reads-at-lt2-clause-result_value c = let a = c.args in cut_off _ _ _ (omega (arith, length-drop a.at a.reads.now))

pub returns-then-len-lt2-clause-result_value : goal.returns-then-len-lt2-clause-result_value
returns-then-len-lt2-clause-result_value c =
    let a = c.args in
    let w = c.word_at-len.ensures.0 in
    too_small _ _ _ (omega (arith, length_field_lem a.reads.now a.at))

pub overflow_mul-shape : goal.overflow_mul-shape
overflow_mul-shape c =
    let k = c.cells_in-count in
    omega (arith, k.ensures, div-le_self (c.word_at-len.result - 2) c.args.shape.size, mul-le-mul_right k.result c.args.shape.cell.1)

pub returns-then-shape-count-clause-result_value : goal.returns-then-shape-count-clause-result_value
returns-then-shape-count-clause-result_value c =
    let a = c.args in
    let s = seen a.shape.size a.reads.now a.at _ _ c.word_at-len.ensures.0 c.cells_in-count.ensures in
    unfilled _ _ _ (λ e. c.if-shape-count.true (ap (λ (k : ℕ). a.shape.size * k) (sym s.count_is) ∙ e ∙ ap (λ (l : ℕ). l - 2) s.length_is))

pub returns-then-reads-at-clause-result_value : goal.returns-then-reads-at-clause-result_value
returns-then-reads-at-clause-result_value c =
    let a = c.args in
    let s = seen a.shape.size a.reads.now a.at _ _ c.word_at-len.ensures.0 c.cells_in-count.ensures in
    too_long _ _ _ (omega (arith, s))

pub returns-then-shape-eq3-clause-result_value : goal.returns-then-shape-eq3-clause-result_value
returns-then-shape-eq3-clause-result_value c =
    let a = c.args in
    let s = seen a.shape.size a.reads.now a.at _ _ c.word_at-len.ensures.0 c.cells_in-count.ensures in
    let whole = is_whole _ _ a.at _ _ s c.if-len-lt2.false c.if-shape-count.false c.if-reads-at.false in
    emptied _ _ _ whole c.if-shape-eq3.true (s.count_is ∙ c.if-count-eq0.true)

pub returns-then-first-ne0-clause-result_value : goal.returns-then-first-ne0-clause-result_value
returns-then-first-ne0-clause-result_value c =
    let a = c.args in
    let s = seen a.shape.size a.reads.now a.at _ _ c.word_at-len.ensures.0 c.cells_in-count.ensures in
    let whole = is_whole _ _ a.at _ _ s c.if-len-lt2.false c.if-shape-count.false c.if-reads-at.false in
    let first = sym (first_field_lem a.reads.now a.at) in
    misplaced _ _ _ whole c.if-shape-eq3.false (s.count_is ∙ c.if-count-eq0.true) (λ e. c.if-first-ne0.true (c.word_at-first.ensures.0 ∙ first ∙ e))

pub overflow_add-first : goal.overflow_add-first
overflow_add-first c = omega (arith, c.cells_in-count.ensures, div-le_self (c.word_at-len.result - 2) c.args.shape.size)

pub returns-then-first-count-clause-result_value : goal.returns-then-first-count-clause-result_value
returns-then-first-count-clause-result_value c =
    let a = c.args in
    let rest : List ℕ = drop a.at a.reads.now in
    let s = seen a.shape.size a.reads.now a.at _ _ c.word_at-len.ensures.0 c.cells_in-count.ensures in
    let whole = is_whole _ _ a.at _ _ s c.if-len-lt2.false c.if-shape-count.false c.if-reads-at.false in
    let first = first_field_lem a.reads.now a.at ∙ sym c.word_at-first.ensures.0 in
    -- behind the test of c = 0: such a read has cells of two bytes
    let retained : NotRetired a.shape.size rest = elim c.if-count-eq0.branch [
      | then-count-eq0+else-shape-eq3+else-first-ne0 w ↦ λ z e. w.if-shape-eq3.false z
      | else-count-eq0 w ↦ λ z e. w.if-count-eq0.false (sym s.count_is ∙ e)
    ] in
    too_far _ _ _ whole retained (omega (arith, s.count_is, first))

pub returns : goal.returns
returns c =
    let a = c.args in
    let rest : List ℕ = drop a.at a.reads.now in
    let s = seen a.shape.size a.reads.now a.at _ _ c.word_at-len.ensures.0 c.cells_in-count.ensures in
    let whole = is_whole _ _ a.at _ _ s c.if-len-lt2.false c.if-shape-count.false c.if-reads-at.false in
    let first = first_field_lem a.reads.now a.at ∙ sym c.word_at-first.ensures.0 in
    -- and it stands at the first column
    let beyond : NotRetired a.shape.size rest × (cell_count a.shape.size rest ≡ 0 → first_field rest ≡ 0) = elim c.if-count-eq0.branch [
      | then-count-eq0+else-shape-eq3+else-first-ne0 w ↦ (λ z e. w.if-shape-eq3.false z, λ e. first ∙ w.if-first-ne0.false)
      | else-count-eq0 w ↦ (λ z e. w.if-count-eq0.false (sym s.count_is ∙ e), λ e. absurd (w.if-count-eq0.false (sym s.count_is ∙ e)))
    ] in record {
      result_value = well_placed _ _ _ whole beyond.0 beyond.1 (omega (arith, s.count_is, first));
      head_place = cells_lie _ _ a.at _ c.requires s.length_is (good_length _ _ whole);
    }
