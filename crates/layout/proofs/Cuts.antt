-- Where a read's cells lie among the bytes, as the code cuts them out.
use Prim.Native.Nat.{ℕ, ◌+◌, ◌-◌, ◌*◌, ◌≤◌, ◌<◌}
use borrow.Author.Tests.{le-leb}
use lib.ListN.{length, get_or, take, drop, length-take, length-drop}
use mathlib.Core.Bool.{Bool, false, cond}
use mathlib.Core.List.{List}
use mathlib.Core.Path.{◌≡◌, sym, ap, ap₂, ◌∙◌}
use native.Mathlib.Nat.{zero-add}
use native.Mathlib.Omega.{arith}
use Rattle.meaning.specs.Numbers.{run}
use Rattle.meaning.specs.Block.{Cell, Read, hole, cell_count, cells_part, cell_at, read_of, after_reads}
use Rattle.meaning.specs.Active.{read, end, at}
use Rattle.meaning.specs.Refusals.{bad_cell, bad_cells}
use Rattle.meaning.proofs.Lists.{get_or-run}
use Rattle.meaning.proofs.Refusals.{or_false_left}
use Rattle.layout.specs.declared.runs.Place.{Place}
use Rattle.layout.specs.declared.shape.Shape.{Shape}
use Rattle.layout.specs.Reads.{matrix_in, Lawful}
use Rattle.layout.specs.Places.{start_at, first_at, end_at, cells_start, Noted, read_from}
use Rattle.layout.proofs.Tests.{none_at}
use Rattle.layout.proofs.Laws.{read_is, read_first, read-inside, cell-count, cells_part_lem, cells-inside}

-- the bytes of the cells from `at` on, for columns `from` to `to` - 1
abbrev pub part : ℕ → List ℕ → ℕ → ℕ → ℕ → List ℕ
part size reads at from to = take (at + size * (to - from) - at) (drop at reads)

-- the cells of read r start at `at`, and go from column `from` to the column before `to`
pub record Cut (s : Shape) (reads : List ℕ) (r at from to : ℕ) : Type 0 where
  pub ordered : from ≤ to
  pub within : to ≤ s.m
  pub few : s.m ≤ 1024
  pub inside : at + s.size * (to - from) ≤ length reads
  pub sized : length (part s.size reads at from to) ≡ s.size * (to - from)
  pub cells_good : (i : ℕ) → i < to - from → bad_cell (cell_at s.size (part s.size reads at from to) i) ≡ false
  pub whole : read_from s.size from (to - from) (part s.size reads at from to) ≡ read (matrix_in s reads) r

cut : (s : Shape) (reads : List ℕ) → Lawful s reads → (r : ℕ) → r < s.n → (at from to : ℕ) → at ≡ cells_start reads r → from ≡ (read (matrix_in s reads) r).first
    → to ≡ end (read (matrix_in s reads) r) → Cut s reads r at from to
unfolding bad_cells read_of
cut s reads lawful r l at from to ea ef et =
    let p : List ℕ = after_reads r reads in
    let n : to - from ≡ end (read (matrix_in s reads) r) - (read (matrix_in s reads) r).first = ap₂ ◌-◌ et ef in
    let z : s.size * (to - from) ≡ s.size * (end (read (matrix_in s reads) r) - (read (matrix_in s reads) r).first) = ap (λ (x : ℕ). s.size * x) n in
    let k : at + s.size * (to - from) - at ≡ s.size * (end (read (matrix_in s reads) r) - (read (matrix_in s reads) r).first) = omega arith in
    let same : part s.size reads at from to ≡ cells_part p = ap₂ (λ (n k : ℕ). take n (drop k reads)) k ea ∙ cells_part_lem s reads lawful r l in
    let inside : at + s.size * (to - from) ≤ length reads = omega (arith, cells-inside s reads lawful r l) in
    let cells : to - from ≡ cell_count s.size p = n ∙ cell-count s reads lawful r l in
    record {
      ordered = ends-behind;
      within = omega (arith, read-inside s reads lawful r l);
      few = lawful.few-columns;
      inside = inside;
      sized = simp (length-take, length-drop) (omega arith);
      cells_good = λ i h.
          ap (λ (x : List ℕ). bad_cell (cell_at s.size x i)) same
          ∙ none_at (cell_count s.size p) (λ k. bad_cell (cell_at s.size (cells_part p) k)) (or_false_left _ _ (lawful.sound r l).celled) i (omega (arith, cells));
      whole =
          ap₂ (λ (k : ℕ) (x : List ℕ). read_from s.size from k x) cells same
          ∙ ap (λ (k : ℕ). read_from s.size k (cell_count s.size p) (cells_part p)) (ef ∙ read_first s reads lawful r l)
          ∙ sym (read_is s reads lawful r l);
    }
  where
    ends-behind : from ≤ to
    ends-behind = omega arith

-- as the run of places says
pub cut_noted : {s : Shape} {reads : List ℕ} {places : List Place} → Lawful s reads → Noted s reads places → (r : ℕ) → r < s.n
    → Cut s reads r (start_at places r) (first_at places r) (end_at places r)
cut_noted {s} {reads} lawful noted r l = cut s reads lawful r l _ _ _ (noted.starts r l) (noted.firsts r l) (noted.ends r l)

-- its cell at a column
pub cut_cell : {s : Shape} {reads : List ℕ} {r from to x : ℕ} → Cut s reads r x from to → (j : ℕ) → from ≤ j → j < to
    → cell_at s.size (part s.size reads x from to) (j - from) ≡ at (read (matrix_in s reads) r) j
unfolding at
cut_cell {s} {reads} {r} {from} {to} {x} c j h k =
    let n : ℕ = to - from in
    let f : ℕ → Cell = cell_at s.size (part s.size reads x from to) in
    sym (ap (λ (t : Bool). cond t (get_or (run 0 n f) (j - from) hole) hole) (le-leb from j h) ∙ get_or-run 0 n f (j - from) hole (omega arith) ∙ ap f (zero-add (j - from)))
    ∙ ap (λ (y : Read). at y j) c.whole
