-- How much room a column of so many reads takes, and that the local arrays are room enough.
use Prim.Native.Nat.{ℕ, ◌≤◌, min}
use mathlib.Core.Path.{ap}
use mathlib.Core.List.{List}
use native.Mathlib.Omega.{arith}
use lib.ListN.{replicate, length-replicate, get_or-replicate}
use lib.Pow.{pow_mono}
use Rattle.meaning.specs.Active.{used}
use Rattle.layout.specs.declared.runs.Place.{Place}
use Rattle.layout.specs.declared.runs.Column.{Column}
use Rattle.layout.specs.declared.shape.Shape.{Shape}
use Rattle.layout.specs.Places.{nowhere}
use Rattle.layout.specs.Lists.{no_reads, Unlisted}
use Rattle.solve.specs.Rooms.{Rooms}
use Rattle.rooms.specs.Unlisted.{unlisted}
use Rattle.rooms.specs.New.{New}

few_reads_room : (n : ℕ) → n ≤ 7 → used (min n 12) ≤ 128
few_reads_room n l = pow_mono {j = 7} (omega arith)

any_reads_room : (n : ℕ) → used (min n 12) ≤ 4096
any_reads_room n = pow_mono {j = 12} (omega arith)

-- a run of new lists has no column with a read
new_lists : (n : ℕ) → Unlisted (replicate n unlisted)
new_lists n j l = ap (λ (c : Column). c.count) (get_or-replicate n j unlisted no_reads (omega (arith, length-replicate n unlisted)))

-- for at most 32 columns and 7 reads
pub small_rooms : (s : Shape) → s.m ≤ 32 → s.n ≤ 7 → Rooms s (replicate 7 nowhere) (replicate 32 unlisted) (replicate 128 0)
small_rooms s m n =
    record {
      places_room = n;
      lists_room = m;
      lists_empty = new_lists 32;
      taken_room = few_reads_room s.n n;
      tally_room = omega arith;
    }

-- for every block
pub large_rooms : (s : Shape) → Rooms s (replicate 1024 nowhere) (replicate 1024 unlisted) (replicate 4096 0)
large_rooms s =
    record {
      places_room = omega (arith, s.few_reads, length-replicate 1024 nowhere);
      lists_room = omega (arith, s.few_columns, length-replicate 1024 unlisted);
      lists_empty = new_lists 1024;
      taken_room = any_reads_room s.n;
      tally_room = omega (arith, s.few_columns);
    }

-- new room of these sizes is room enough where they are
pub rooms_of : (reads columns size : ℕ) {s : Shape} {p : List Place} {l : List Column} {t : List ℕ} → New reads columns size p l t
    → Rooms s (replicate reads nowhere) (replicate columns unlisted) (replicate size 0) → Rooms s p l t
rooms_of reads columns size new r = rw (new.0, new.1, new.2) r
