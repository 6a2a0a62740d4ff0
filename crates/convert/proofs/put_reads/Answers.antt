use Rattle.std.proofs.Common.{ℕ, ◌+◌, ◌<◌, List, length, refl, sym, ap, ap₂, ◌∙◌, rules, arith}
use Rattle.meaning.specs.Block.{Read, Matrix}
use Rattle.meaning.specs.Active.{read}
use Rattle.meaning.specs.Call.{laid}
use Rattle.meaning.specs.Convert.{read_bytes}
use Rattle.layout.specs.Matrices.{matrix_of}
use Rattle.layout.specs.Places.{read_start}
use Rattle.reads.proofs.ReadLies.{read_by}
use Rattle.convert.specs.Walked.{bytes_to}
use Rattle.convert.proofs.Walk.{bytes_skip, bytes_take, bytes_below, reads_none, reads_more}
use Rattle.convert.proofs.put_reads.Goals as goal
use Rattle.convert.proofs.put_reads.Goals.{then-read-gt0, else-read-gt0}

pub loop-r-init : goal.loop-r-init
unfolding read_start bytes_to
loop-r-init c = (refl, search rules, refl, refl, reads_none (matrix_of c.args.reads.now) c.args.out.now)

pub put_read-requires-clause-room : goal.put_read-requires-clause-room
put_read-requires-clause-room c =
    let l = c.loop-r in
    let M : Matrix = matrix_of c.args.reads.now in
    let h = c.read_at-read.ensures l.r (c.loop-r-test.true, l.invariant.0, l.invariant.1) in
    let t = bytes_take M l.r (omega (arith, h)) in
    let m = bytes_below M (l.r + 1) c.args.reads.now.shape.n (omega arith) in
    omega (arith, h, t.2, c.requires)

pub loop-r-preserved : goal.loop-r-preserved
loop-r-preserved c =
    let l = c.loop-r in
    let a = c.args in
    let M : Matrix = matrix_of a.reads.now in
    let h = c.read_at-read.ensures l.r (c.loop-r-test.true, l.invariant.0, l.invariant.1) in
    let m = bytes_below M l.r a.reads.now.shape.n (omega arith) in
    elim c.if-read-gt0.branch [
      | then-read-gt0 w ↦ let some : 0 < length (read M l.r).cells = omega (arith, h) in let t = bytes_take M l.r some in (
        h.next_is,
        h.early,
        omega (arith, h, w.to-is, t.2),
        omega (arith, ap length w.out-is, w.put_read.auto.out),
        w.out-is ∙ w.put_read.ensures
            ∙ ap₂ (λ (r : Read) (x : List ℕ). laid l.to (read_bytes r) x) (sym (read_by a.reads.now l.r c.loop-r-test.true _ h)) l.invariant.4
            ∙ reads_more M a.out.now l.r l.to some l.invariant.2 (omega (arith, c.requires)),
      )
      | else-read-gt0 w ↦ let t = bytes_skip M l.r (omega (arith, h)) in (
        h.next_is,
        h.early,
        omega (arith, w.to-is, ap length t.0),
        ap length w.out-is ∙ l.invariant.3,
        w.out-is ∙ l.invariant.4 ∙ ap (λ (x : List ℕ). laid 9 x a.out.now) (sym t.0),
      )
    ]
