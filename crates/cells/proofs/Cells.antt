-- Where a cell stands among the bytes.
use Prim.Native.Nat.{ℕ, ◌+◌, ◌-◌, ◌*◌, ◌≤◌, ◌<◌}
use lib.ListN.{length, get_or}
use mathlib.Core.Bool.{false}
use mathlib.Core.List.{List}
use mathlib.Core.Path.{◌≡◌, sym, subst}
use native.Mathlib.Omega.{arith}
use Rattle.meaning.specs.Block.{cell_at}
use Rattle.meaning.specs.Active.{read, at}
use Rattle.meaning.specs.Refusals.{bad_cell}
use Rattle.meaning.proofs.Closing.{active-cells}
use Rattle.layout.specs.declared.runs.Place.{Place}
use Rattle.layout.specs.declared.shape.Shape.{Shape}
use Rattle.layout.specs.declared.reads.Placed.{Placed}
use Rattle.layout.specs.Reads.{matrix_in}
use Rattle.layout.specs.Places.{start_at, first_at, end_at}
use Rattle.layout.proofs.Laws.{cell-fits}
use Rattle.layout.proofs.Cuts.{part, cut_noted, cut_cell}
use Rattle.cells.specs.Laid.{Laid}

-- the read's cells start at x, and it goes from column `from` to the column before `to`: cell j - from of that part is its cell at column j
pub record Here (s : Shape) (reads : List ℕ) (r j x from to : ℕ) : Type 0 where
  pub begun : from ≤ j
  pub goes_on : j < to
  pub inside : x + s.size * (to - from) ≤ length reads
  pub within : s.size * (j - from) + s.size ≤ length (part s.size reads x from to)
  pub cell_good : bad_cell (cell_at s.size (part s.size reads x from to) (j - from)) ≡ false
  pub cell-at : cell_at s.size (part s.size reads x from to) (j - from) ≡ at (read (matrix_in s reads) r) j

-- cell k of that part
pub taken_cell : {s : Shape} {reads : List ℕ} {r j x from to : ℕ} → Here s reads r j x from to → (k : ℕ) → k ≡ j - from
    → (s.size * k + s.size ≤ length (part s.size reads x from to)) × (bad_cell (cell_at s.size (part s.size reads x from to) k) ≡ false)
    × (cell_at s.size (part s.size reads x from to) k ≡ at (read (matrix_in s reads) r) j)
taken_cell h k e = rw e (h.within, h.cell_good, h.cell-at)

module _ (placed : Placed) {list : List ℕ} {j : ℕ} (laid : Laid placed list j) (i : ℕ) (l : i < length list) where
  abbrev s : Shape
  s = placed.reads.shape

  abbrev reads : List ℕ
  reads = placed.reads.bytes.now

  abbrev places : List Place
  places = placed.places.now

  here : Here s reads (get_or list i 0) j (start_at places (get_or list i 0)) (first_at places (get_or list i 0)) (end_at places (get_or list i 0))
  here =
      let r = get_or list i 0 in
      let lt = laid.each_read i l in
      let c = cut_noted placed.reads.lawful placed.noted r lt in
      let a = active-cells (read (matrix_in s reads) r) j (laid.each-active i l) in
      let from : first_at places r ≤ j = omega (arith, placed.noted.firsts r lt, a.1) in
      let to : j < end_at places r = omega (arith, placed.noted.ends r lt, a.2) in
      let below : j - first_at places r < end_at places r - first_at places r = omega arith in
      record {
        begun = from;
        goes_on = to;
        inside = c.inside;
        within = subst (λ (n : ℕ). s.size * (j - first_at places r) + s.size ≤ n) (sym c.sized) (cell-fits _ _ _ below);
        cell_good = c.cells_good (j - first_at places r) below;
        cell-at = cut_cell c j from to;
      }

  -- by the number that is read of it
  pub here_listed : {r : ℕ} → r ≡ get_or list i 0 → Here s reads (get_or list i 0) j (start_at places r) (first_at places r) (end_at places r)
  here_listed e = rw e here
