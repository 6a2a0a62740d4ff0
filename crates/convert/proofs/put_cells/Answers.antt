use Rattle.std.proofs.Common.{ℕ, ◌+◌, ◌*◌, ◌/◌, ◌≤◌, ◌<◌, List, ◌∷◌, length, get_or, refl, ap₂, subst, ◌∙◌, arith}
use Rattle.meaning.specs.Numbers.{bytes_of}
use Rattle.meaning.specs.Call.{laid}
use Rattle.convert.proofs.Parts.{cells_none, cells_more}
use Rattle.convert.proofs.put_cells.Goals as goal

pub loop-i-init : goal.loop-i-init
loop-i-init c = let a = c.args in (refl, cells_none a.shape.size a.cells.now a.out.now a.at)

pub loop-i-preserved : goal.loop-i-preserved
loop-i-preserved c =
    let l = c.loop-i in
    let a = c.args in
    let below : l.i < length a.cells.now / a.shape.size = subst (λ (n : ℕ). l.i < n) c.cells_in-i-end.ensures c.loop-i-test.true in
    let room : a.at + 3 * (l.i + 1) ≤ length a.out.now = omega (arith, below, c.requires) in (
      omega (arith, c.put_cell.auto),
      c.put_cell.ensures
          ∙ ap₂ (λ (x : ℕ) (y : List ℕ). laid (a.at + 3 * l.i) (get_or a.cells.now (a.shape.size * l.i) 0 ∷ bytes_of 2 x) y) c.weight_at.ensures.0 l.invariant.1
          ∙ cells_more a.shape.size a.cells.now a.out.now a.at l.i room,
    )
