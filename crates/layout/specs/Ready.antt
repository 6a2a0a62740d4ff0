-- Reads that pass the checks 5 to 9, with both runs made.
use Rattle.std.specs.Prelude.{List, ℕ}
use Rattle.layout.specs.declared.runs.Place.{Place}
use Rattle.layout.specs.declared.runs.Column.{Column}
use Rattle.layout.specs.declared.shape.Shape.{Shape}
use Rattle.layout.specs.Reads.{matrix_in, Lawful}
use Rattle.layout.specs.Places.{Noted}
use Rattle.layout.specs.Lists.{Piled}

pub record Ready (s : Shape) (reads : List ℕ) (places : List Place) (lists : List Column) : Type 0 where
  pub lawful : Lawful s reads
  pub noted : Noted s reads places
  pub piled : Piled (matrix_in s reads) lists
