-- Where each read lies: a run of places, one for each read.
use Rattle.std.specs.Prelude.{ℕ, zero, suc, ◌+◌, ◌≤◌, ◌<◌, ◌≡◌, List, length, get_or, drop}
use Rattle.meaning.specs.Numbers.{run}
use Rattle.meaning.specs.Block.{Read, length_field, cell_at}
use Rattle.meaning.specs.Active.{read, end}
use Rattle.layout.specs.declared.runs.Place.{Place}
use Rattle.layout.specs.declared.shape.Shape.{Shape}
use Rattle.layout.specs.Reads.{matrix_in}

-- what stands behind the end of a run
abbrev pub nowhere : Place
nowhere = record { start = 0; first = 0; end = 0 }

-- what the run says of read r: where its cells start, its first column, the column after its last
abbrev pub start_at : List Place → ℕ → ℕ
start_at places r = (get_or places r nowhere).start

abbrev pub first_at : List Place → ℕ → ℕ
first_at places r = (get_or places r nowhere).first

abbrev pub end_at : List Place → ℕ → ℕ
end_at places r = (get_or places r nowhere).end

-- the byte at which read r starts
unfoldable pub read_start : List ℕ → ℕ → ℕ
read_start reads zero = 0
read_start reads (suc r) = read_start reads r + (2 + length_field (drop (read_start reads r) reads))

-- and its cells
abbrev pub cells_start : List ℕ → ℕ → ℕ
cells_start reads r = read_start reads r + 4

-- the run has room for the reads, and says where each lies
pub record Noted (s : Shape) (reads : List ℕ) (places : List Place) : Type 0 where
  pub room : s.n ≤ length places
  pub starts : (r : ℕ) → r < s.n → start_at places r ≡ cells_start reads r
  pub firsts : (r : ℕ) → r < s.n → first_at places r ≡ (read (matrix_in s reads) r).first
  pub ends : (r : ℕ) → r < s.n → end_at places r ≡ end (read (matrix_in s reads) r)

-- a read by its first column and n cells of `size` bytes each
abbrev pub read_from : ℕ → ℕ → ℕ → List ℕ → Read
read_from size from n cells = record { first = from; cells = run 0 n (cell_at size cells) }
