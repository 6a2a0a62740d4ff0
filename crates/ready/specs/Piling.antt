-- What is known of the reads before the columns' lists are made.
use Rattle.std.specs.Prelude.{ℕ, ◌*◌, ◌≤◌, ◌<◌, ◌≡◌, List, length, Result, Ok, Err}
use Rattle.meaning.specs.Block.{Matrix}
use Rattle.meaning.specs.Active.{active_count, entries}
use Rattle.meaning.specs.Refusals.{crowded, matrix_refusal}
use Rattle.layout.specs.declared.runs.Place.{Place}
use Rattle.layout.specs.declared.runs.Column.{Column}
use Rattle.layout.specs.declared.shape.Shape.{Shape}
use Rattle.layout.specs.Reads.{Lawful}
use Rattle.layout.specs.Places.{Noted}
use Rattle.refusal.specs.declared.Refusal.{Refusal}
use Rattle.refusal.specs.Numbers.{refusal_numbers}

-- lawful reads, where they lie, and room for the lists
pub record Piling (s : Shape) (reads : List ℕ) (places : List Place) (lists : List Column) : Type 0 where
  pub lawful : Lawful s reads
  pub noted : Noted s reads places
  pub room : s.m ≤ length lists

-- check 9 passes, and t is T
pub record ThinColumns (M : Matrix) (t : ℕ) : Type 0 where
  pub thin : (j : ℕ) → j < M.columns → active_count M j ≤ 12
  pub entries_are : t ≡ entries M

-- check 9 applies with this refusal, or passes with this T
abbrev pub ColumnsFound : Matrix → Result ℕ Refusal → Type 0
ColumnsFound M (Err e) = crowded (active_count M) 0 M.columns ≡ refusal_numbers e
ColumnsFound M (Ok t) = ThinColumns M t

-- check 9 or 10 applies with this refusal, whatever the output's room, or both pass with this T
abbrev pub TableSized : Matrix → ℕ → Result ℕ Refusal → Type 0
TableSized M work (Err e) = (out : ℕ) → matrix_refusal M work out ≡ refusal_numbers e
TableSized M work (Ok t) = ThinColumns M t × (M.columns * t ≤ work)
