use native.Mathlib.Omega.{arith}
use mathlib.Core.Path.{◌≡◌, ◌∙◌}
use Rattle.layout.proofs.Fields.{weight_one, weight-two}
use Rattle.layout.proofs.shape.weight_at.Goals as goal

pub returns-then-size-eq2 : goal.returns-then-size-eq2
returns-then-size-eq2 c =
    let a = c.args in
    let w = c.from-first in
    (w.ensures ∙ weight_one a.cells.now a.size a.at c.if-size-eq2.true, omega (arith, w.ensures))

pub returns : goal.returns
returns c =
    let a = c.args in
    let three : a.size ≡ 3 = omega (arith, c.requires, c.if-size-eq2.false) in
    let is = weight-two a.cells.now a.size a.at three in
    (omega (arith, is, c.from-first.ensures, c.from.ensures), omega (arith, c.from-first.ensures, c.from.ensures))
