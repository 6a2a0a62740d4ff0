use native.Mathlib.Omega.{arith}
use Prim.Native.Nat.{ℕ, ◌+◌, ◌-◌, ◌≤◌}
use mathlib.Core.Path.{◌≡◌, refl, sym, ap, ◌∙◌}
use mathlib.Core.List.{List, ◌++◌}
use lib.ListN.{length, take, drop}
use Rattle.meaning.specs.Charge.{least_cost, best}
use Rattle.meaning.specs.Letters.{charge_in, mode_of}
use Rattle.meaning.specs.Answer.{sides_of}
use Rattle.meaning.specs.Call.{laid}
use Rattle.meaning.proofs.Heterozygous.{mode_fair}
use Rattle.layout.specs.Matrices.{matrix_of}
use Rattle.layout.proofs.Laws.{count_is, lawful_placed, ready-thin}
use Rattle.written.proofs.Answered.{cost_is, sides_are, sides-laid, sides-size, finished}
use Rattle.written.proofs.write_answer.Goals as goal

pub write_letters-flips-requires-clause-thin : goal.write_letters-flips-requires-clause-thin
write_letters-flips-requires-clause-thin c = rw c.placed.ensures.0 (ready-thin _ _ _ _ c.args.table.now.listed.ready)

pub returns : goal.returns
returns c =
    let r = c.args.table.now.listed.reads in
    let n = r.shape.n in
    let mode = mode_of c.args.heterozygous in
    let M = matrix_of r in
    let fair = mode_fair c.args.heterozygous in
    let placed = lawful_placed r.shape r.bytes.now r.lawful in
    let out = c.args.out.now in
    let written = c.write_sides.new.sides in
    let room : 17 + n ≤ length out = omega (arith, c.requires.m_in_bounds) in
    let size = sides-size n written out c.write_sides.auto.sides room in
    -- the least entry is the cost, and the way back gives the reported sides
    let cost : c.least_last-cost.result ≡ least_cost (charge_in mode) M = c.least_last-cost.ensures ∙ cost_is _ fair _ placed r.lawful.some-column c.args.table.now.work.now c.requires.right in
    let sides : written ≡ sides_of M (best (charge_in mode) M) = c.write_sides.ensures ∙ sides_are _ fair M placed c.args.table.now.work.now c.requires.right in
    let l = c.write_letters-flips in
    record {
      value = cost;
      out_after =
          finished mode M n r.shape.m c.least_last-cost.result l.result out (take 17 out ++ (written ++ drop (17 + n - 17) (drop 17 out))) l.new.out c.put_head.new.out
          (sym (count_is r.shape r.bytes.now)) refl c.requires.m_in_bounds (sides-laid n written out size room ∙ ap (λ (x : List ℕ). laid 17 x out) sides)
          (rw c.placed.ensures.0 at l.ensures.value) (rw c.placed.ensures.0 at l.ensures.out_after) cost c.put_head.ensures;
    }
