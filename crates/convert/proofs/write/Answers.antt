use Rattle.std.proofs.Common.{◌≡◌, ℕ, ◌+◌, List, length, sym, ap, ap₂, ◌∙◌, arith}
use Rattle.meaning.specs.Block.{Matrix}
use Rattle.meaning.specs.Active.{count}
use Rattle.meaning.specs.Call.{laid}
use Rattle.meaning.specs.Kept.{without_empty}
use Rattle.meaning.specs.Convert.{block_bytes}
use Rattle.layout.specs.Matrices.{matrix_of}
use Rattle.layout.specs.declared.reads.Reads.{Reads}
use Rattle.layout.proofs.Laws.{count_is}
use Rattle.convert.specs.Walked.{bytes_to, head_bytes}
use Rattle.convert.proofs.Whole.{size_is, all_laid, writing_none, writing-done}
use Rattle.convert.proofs.write.Goals as goal

-- they are all of the matrix's reads
all_reads : (R : Reads) → R.shape.n ≡ count (matrix_of R)
all_reads R = sym (count_is R.shape R.bytes.now)

-- the bytes needed
need_is : (R : Reads) (bytes : ℕ) → bytes ≡ length (bytes_to (matrix_of R) R.shape.n) → 9 + bytes ≡ length (block_bytes (without_empty (matrix_of R)))
need_is R bytes e = ap (λ (k : ℕ). 9 + k) e ∙ sym (size_is (matrix_of R) _ (all_reads R))

pub returns-then-out-need : goal.returns-then-out-need
returns-then-out-need c = writing_none _ _ _ (need_is c.args.reads.now _ c.kept_in-kept.ensures.1) c.if-out-need.true

pub returns : goal.returns
returns c =
    let a = c.args in
    let R = a.reads.now in
    let M : Matrix = matrix_of R in
    let k = c.kept_in-kept.result in
    let e = c.kept_in-kept.ensures in
    ap (λ (x : List ℕ). record { number = 0; second = 0; out = x })
    (c.put_head.ensures
    ∙ ap (laid 0 (head_bytes R.shape.m k.count k.bytes)) c.put_reads.ensures
    ∙ ap₂ (λ (x y : ℕ). laid 0 (head_bytes R.shape.m x y) (laid 9 (bytes_to M R.shape.n) a.out.now)) e.0 e.1
    ∙ all_laid M R.shape.n (all_reads R) a.out.now (omega (arith, e.1)))
    ∙ writing-done _ _ (omega (arith, need_is R _ e.1))
