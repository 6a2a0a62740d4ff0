use Rattle.std.proofs.Common.{◌≡◌, ℕ, ◌-◌, ◌≤◌, List, length, Some, None, sym, ◌∙◌, arith}
use mathlib.Core.Logic.{⊎_elim}
use Rattle.refusal.specs.declared.Refusal.TheVariants.{Version}
use Rattle.std.proofs.lemmas.Result.{err_from_is_err_and}
use Rattle.meaning.specs.Block.{version_field, size_field}
use Rattle.header.specs.Header.{size_of, Sized}
use Rattle.header.proofs.HeaderChecks.{is_short, is_version, is_size, no_column, many_columns, many_reads, is_sized, is_cell_size}
use Rattle.header.proofs.check_header.Goals as goal

pub returns-then-block-lt9-clause-result_value : goal.returns-then-block-lt9-clause-result_value
returns-then-block-lt9-clause-result_value c = is_short _ c.if-block-lt9.true

pub returns-in_err-size-clause-result_value : goal.returns-in_err-size-clause-result_value
returns-in_err-size-clause-result_value c =
    let p = err_from_is_err_and c.from_residual.result c.from_residual.ensures.1 in
    let none : size_of (version_field c.args.block.now) ≡ None = sym c.cell_size.ensures ∙ c.in_err-size.ensures.ok_part in
    let e : c.in_err-size.field-0.0 ≡ Version = let v = c.in_err-size.ensures.value in grind arith in
    rw (p.1, p.2, e) (is_version _ c.if-block-lt9.false none)

pub returns-then-long_at-block-clause-result_value : goal.returns-then-long_at-block-clause-result_value
returns-then-long_at-block-clause-result_value c =
    is_size _ c.if-block-lt9.false (sym c.cell_size.ensures ∙ c.in_ok-size.ensures.ok_part) (λ q. c.if-long_at-block.true (c.long_at.ensures.0 ∙ q))

pub returns-then-m-eq0-clause-result_value : goal.returns-then-m-eq0-clause-result_value
returns-then-m-eq0-clause-result_value c =
    -- behind the checks 1 to 3
    let bytes : List ℕ = c.args.block.now in
    let nine : 9 ≤ length bytes = c.if-block-lt9.false in
    let version : size_of (version_field bytes) ≡ Some c.in_ok-size.size = sym c.cell_size.ensures ∙ c.in_ok-size.ensures.ok_part in
    let fits : size_field bytes ≡ length bytes - 5 = sym c.long_at.ensures.0 ∙ c.if-long_at-block.false in
    ⊎_elim (λ e. no_column _ nine version fits (omega arith))
    (⊎_elim (λ e. many_columns _ nine version fits (omega arith)) (λ e. many_reads _ nine version fits (omega arith)))
    c.then-m-eq0.either

pub invariant_of-result : goal.invariant_of-result
invariant_of-result c =
    let size = is_cell_size c.args.block.now (sym c.cell_size.ensures ∙ c.in_ok-size.ensures.ok_part) in
    record { cell = size.1; few_columns = omega arith; few_reads = omega arith }

pub returns : goal.returns
returns c =
    let bytes : List ℕ = c.args.block.now in
    let nine : 9 ≤ length bytes = c.if-block-lt9.false in
    let version : size_of (version_field bytes) ≡ Some c.in_ok-size.size = sym c.cell_size.ensures ∙ c.in_ok-size.ensures.ok_part in
    let fits : size_field bytes ≡ length bytes - 5 = sym c.long_at.ensures.0 ∙ c.if-long_at-block.false in
    let size = is_cell_size bytes version in
    let s : Sized bytes _ = record {
      nine = nine;
      size_is = size.0;
      columns = c.word_at-m.ensures.0;
      reads = c.word_at-n.ensures.0;
      cell = size.1;
      some-column = omega arith;
      few-columns = omega arith;
      few-reads = omega arith;
    } in
    record { result_value = is_sized _ nine version fits s; header_sizes = s }
