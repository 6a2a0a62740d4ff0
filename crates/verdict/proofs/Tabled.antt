-- What a filled table gives: the least cost, and our sides.
use Prim.Native.Nat.{ℕ}
use mathlib.Core.List.{List}
use mathlib.Core.Path.{◌≡◌, ◌∙◌}
use Rattle.meaning.specs.Charge.{charge, least_cost, best}
use Rattle.meaning.specs.Letters.{general}
use Rattle.meaning.specs.Answer.{sides_of}
use Rattle.meaning.proofs.Modes.{general_fair}
use Rattle.layout.specs.declared.reads.Reads.{Reads}
use Rattle.layout.specs.Matrices.{matrix_of}
use Rattle.layout.proofs.Laws.{lawful_placed}
use Rattle.sides.specs.declared.Table.{Table}
use Rattle.sides.specs.Ways.{table_least, table_division}
use Rattle.written.specs.Output.{RightColumns}
use Rattle.written.proofs.Answered.{cost_is, sides_are}

module _ (table : Table) (right : RightColumns charge (matrix_of table.listed.reads) table.work.now) where
  abbrev r : Reads
  r = table.listed.reads

  pub least-cost : (x : ℕ) → x ≡ table_least (matrix_of r) table.work.now → x ≡ least_cost charge (matrix_of r)
  least-cost x e = e ∙ cost_is general general_fair (matrix_of r) (lawful_placed r.shape r.bytes.now r.lawful) r.lawful.some-column table.work.now right

  pub our_sides : (sides : List ℕ) → sides ≡ sides_of (matrix_of r) (table_division (matrix_of r) table.work.now) → sides ≡ sides_of (matrix_of r) (best charge (matrix_of r))
  our_sides sides e = e ∙ sides_are general general_fair (matrix_of r) (lawful_placed r.shape r.bytes.now r.lawful) table.work.now right
