-- What new room holds.
use Rattle.std.specs.Prelude.{ℕ, ◌≡◌, List, replicate}
use Rattle.layout.specs.declared.runs.Place.{Place}
use Rattle.layout.specs.declared.runs.Column.{Column}
use Rattle.layout.specs.Places.{nowhere}
use Rattle.rooms.specs.Unlisted.{unlisted}

-- so many places of no read, columns with no read yet, and zeros
abbrev pub New : ℕ → ℕ → ℕ → List Place → List Column → List ℕ → Type 0
New reads columns size places lists scratch = (places ≡ replicate reads nowhere) × (lists ≡ replicate columns unlisted) × (scratch ≡ replicate size 0)
