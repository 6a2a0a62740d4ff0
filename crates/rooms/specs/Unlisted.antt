-- What the room for the lists holds at first.
use Rattle.std.specs.Prelude.{replicate}
use Rattle.layout.specs.declared.runs.Column.{Column}

-- a column that has no read yet, and room for twelve
abbrev pub unlisted : Column
unlisted = record { count = 0; reads = replicate 12 0 }
