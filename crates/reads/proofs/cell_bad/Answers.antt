use mathlib.Core.Logic.{⊎_elim}
use borrow.Author.Tests.{eq-eqb}
use Rattle.reads.proofs.CellChecks.{is_weighted, is_first, is_last}
use Rattle.reads.proofs.cell_bad.Goals as goal
use Rattle.reads.proofs.cell_bad.Goals.{then-weight_at-ne0, else-weight_at-ne0}

pub returns-then-i-eq0 : goal.returns-then-i-eq0
returns-then-i-eq0 c =
    let a = c.args in
    let w = c.weight_at.ensures.0 in
    elim c.if-weight_at-ne0.branch [
      | then-weight_at-ne0 b ↦ let e = is_weighted a.shape.size a.cells.now a.i c.in-2.is _ w b.if-weight_at-ne0.true in cc
      | else-weight_at-ne0 b ↦ ⊎_elim
          (λ n. absurd (n b.if-weight_at-ne0.false))
          (λ q. let e = is_first a.shape.size a.cells.now a.i c.in-2.is _ w q.0 q.1 in let f = eq-eqb a.i 0 q.1 in cc)
          c.if-i-eq0.either
    ]

pub returns-else-i-eq0 : goal.returns-else-i-eq0
returns-else-i-eq0 c = is_last _ _ c.args.i c.in-2.is _ c.weight_at.ensures.0 c.if-i-eq0.false.0 c.if-i-eq0.false.1
