use Rattle.std.proofs.Common.{◌≡◌, ℕ, ◌+◌, ◌-◌, List, length, drop, sym, ap, subst, ◌∙◌, arith}
use Rattle.meaning.proofs.Bounds.{Bytes, bytes_take, bytes_drop}
use Rattle.std.proofs.lemmas.Result.{err_from_is_err_and}
use Rattle.meaning.specs.Block.{after_reads, reads_part}
use Rattle.meaning.specs.Refusals.{Numbers, passed, reads_fault}
use Rattle.refusal.proofs.Told.{refusal-numbered}
use Rattle.layout.specs.declared.shape.Shape.{Shape}
use Rattle.layout.specs.Reads.{matrix_in, Lawful}
use Rattle.block.proofs.BlockChecks.{part_is, header_stop, search_stop, some_left, none_left, reads_lawful, same_matrix}
use Rattle.block.proofs.checked.Goals as goal

pub returns-in_err-shape-clause-result_value : goal.returns-in_err-shape-clause-result_value
returns-in_err-shape-clause-result_value c =
    let p = err_from_is_err_and c.from_residual.result c.from_residual.ensures.1 in
    rw (p.1, p.2) (header_stop _ _ c.in_err-shape.ensures.result_value (refusal-numbered _))

pub returns-in_err-end-clause-result_value : goal.returns-in_err-end-clause-result_value
returns-in_err-end-clause-result_value c =
    let p = err_from_is_err_and c.from_residual-in_err-end.result c.from_residual-in_err-end.ensures.1 in
    let s = c.in_ok-shape.shape in
    let h = c.in_ok-shape.ensures in
    let e = c.in_err-end.ensures.result_value ∙ ap (reads_fault s.size s.m s.n 0) (part_is c.args.block.now) in
    rw (p.1, p.2) (search_stop _ s (sym h.result_value) h.header_sizes _ e (refusal-numbered _))

-- a search that finds no fault, and where it ends
found : (s : Shape) (b part : List ℕ) → part ≡ reads_part b → passed ≡ reads_fault s.size s.m s.n 0 part → passed ≡ reads_fault s.size s.m s.n 0 (reads_part b)
found s b part e h = h ∙ ap (reads_fault s.size s.m s.n 0) e

ends : (n at : ℕ) (b part : List ℕ) → part ≡ reads_part b → at + length (after_reads n part) ≡ length part
    → at + length (after_reads n (reads_part b)) ≡ length (reads_part b)
ends n at b part e h = rw e at h

pub returns-then-end-bytes-clause-result_value : goal.returns-then-end-bytes-clause-result_value
returns-then-end-bytes-clause-result_value c =
    let b = c.args.block.now in
    let s = c.in_ok-shape.shape in
    let h = c.in_ok-shape.ensures in
    let f = c.in_ok-end.ensures in
    some_left b s (sym h.result_value) h.header_sizes (found s b _ (part_is b) f.result_value) _ (ends s.n _ b _ (part_is b) f.search_end)
    (omega (arith, ap length (part_is b)))

pub invariant_of-result-clause-lawful : goal.invariant_of-result-clause-lawful
invariant_of-result-clause-lawful c =
    let b = c.args.block.now in
    let s = c.in_ok-shape.shape in
    let h = c.in_ok-shape.ensures in
    let f = c.in_ok-end.ensures in
    subst (Lawful s) (sym (part_is b)) (reads_lawful b s (sym h.result_value) h.header_sizes (found s b _ (part_is b) f.result_value))

pub returns : goal.returns
returns c =
    let b = c.args.block.now in
    let s = c.in_ok-shape.shape in
    let h = c.in_ok-shape.ensures in
    let f = c.in_ok-end.ensures in
    let passes = none_left b s (sym h.result_value) h.header_sizes (found s b _ (part_is b) f.result_value) _ (ends s.n _ b _ (part_is b) f.search_end)
    (omega (arith, ap length (part_is b))) in
    record {
      result_value = passes;
      passes = record {
        bytes_are = part_is b;
        matrix_is = ap (matrix_in s) (part_is b) ∙ same_matrix b s (sym h.result_value) h.header_sizes;
        nine = h.header_sizes.nine;
        formed = ap (λ (y : Numbers). y.number) (sym passes);
      };
    }

pub invariant_of-result-clause-fit : goal.invariant_of-result-clause-fit
invariant_of-result-clause-fit c =
    let b = c.args.block.now in
    let bytes : Bytes b = λ i. let h = (c.type_inv.block i).fits in omega arith in
    bytes_take (drop 9 b) (length b - 9) (bytes_drop b 9 bytes)
