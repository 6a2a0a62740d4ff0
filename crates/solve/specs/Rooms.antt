-- Room to work in.
use Rattle.std.specs.Prelude.{ℕ, ◌*◌, ◌≤◌, min, List, length}
use Rattle.meaning.specs.Active.{used}
use Rattle.layout.specs.declared.runs.Place.{Place}
use Rattle.layout.specs.declared.runs.Column.{Column}
use Rattle.layout.specs.declared.shape.Shape.{Shape}
use Rattle.layout.specs.Lists.{Unlisted}

-- a place for each read, a list for each column, which has no read yet, and a run that serves for what a column takes over and afterwards for the tally
pub record Rooms (s : Shape) (places : List Place) (lists : List Column) (scratch : List ℕ) : Type 0 where
  pub places_room : s.n ≤ length places
  pub lists_room : s.m ≤ length lists
  pub lists_empty : Unlisted lists
  pub taken_room : used (min s.n 12) ≤ length scratch
  pub tally_room : 4 * s.m ≤ length scratch
