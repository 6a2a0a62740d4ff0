-- The parts of a block, laid one behind the other: a cell, a read's cells, a read, the header.
use Prim.Native.Nat.{ℕ, ◌+◌, ◌*◌, ◌-◌, ◌/◌, ◌≤◌}
use mathlib.Core.Path.{◌≡◌, refl, sym, ap, ap₂, ◌∙◌}
use mathlib.Core.List.{List, [], ◌∷◌, ◌++◌}
use native.Mathlib.Numerals.{add-one}
use native.Mathlib.Nat.{zero-add, add-zero}
use native.Mathlib.Omega.{arith}
use lib.ListN.{length, get_or, take, drop, set, take-append-drop}
use Rattle.meaning.specs.Numbers.{run, big_endian, bytes_of}
use Rattle.meaning.specs.Block.{Cell, cell_at}
use Rattle.meaning.specs.Call.{laid}
use Rattle.meaning.specs.Convert.{cells_bytes, read_bytes}
use Rattle.meaning.proofs.Lists.{length_run, run_more}
use Rattle.meaning.proofs.Rooms.{laid_join, set-laid}
use Rattle.meaning.proofs.Written.{length-cells}
use Rattle.layout.specs.Places.{read_from}
use Rattle.convert.specs.Walked.{head_bytes}

-- nothing
pub laid_none : (l : List ℕ) (at : ℕ) → laid at [] l ≡ l
laid_none l at = ap (λ (k : ℕ). take at l ++ drop k l) (add-zero at) ∙ take-append-drop at l

-- one cell more
cells_snoc : (cs : List Cell) (c : Cell) → cells_bytes (cs ++ (c ∷ [])) ≡ cells_bytes cs ++ (c.letter ∷ bytes_of 2 c.weight)
unfolding cells_bytes bytes_of
cells_snoc [] c = refl
cells_snoc (x ∷ cs) c = ap (λ (l : List ℕ). (x.letter ∷ bytes_of 2 x.weight) ++ l) (cells_snoc cs c)

module _ (size : ℕ) (cells : List ℕ) where
  abbrev cell : ℕ → Cell
  cell = cell_at size cells

  -- the bytes of cell i
  abbrev pub cell_bytes : ℕ → List ℕ
  cell_bytes i = get_or cells (size * i) 0 ∷ bytes_of 2 (big_endian (size - 1) cells (size * i + 1))

  pub cells_none : (l : List ℕ) (at : ℕ) → l ≡ laid at (cells_bytes (run 0 0 cell)) l
  unfolding cells_bytes run
  cells_none l at = sym (laid_none l at)

  pub cells_more : (l : List ℕ) (at i : ℕ) → at + 3 * (i + 1) ≤ length l
      → laid (at + 3 * i) (cell_bytes i) (laid at (cells_bytes (run 0 i cell)) l) ≡ laid at (cells_bytes (run 0 (i + 1) cell)) l
  unfolding cell_at
  cells_more l at i h =
      let xs : List ℕ = cells_bytes (run 0 i cell) in
      let n : length xs ≡ 3 * i = length-cells (run 0 i cell) ∙ ap (λ (k : ℕ). 3 * k) (length_run 0 i cell) in
      ap (λ (k : ℕ). laid (at + k) (cell_bytes i) (laid at xs l)) (sym n)
      ∙ laid_join at xs (cell_bytes i) l (omega arith)
      ∙ ap (λ (y : List ℕ). laid at y l)
      (sym (ap (λ (k : ℕ). cells_bytes (run 0 k cell)) (add-one i)
      ∙ ap cells_bytes (run_more 0 i cell ∙ ap (λ (k : ℕ). run 0 i cell ++ (cell k ∷ [])) (zero-add i))
      ∙ cells_snoc (run 0 i cell) (cell i)))

-- a read, by its parts that are laid one after the other
module _ (size first c : ℕ) (part : List ℕ) (filled : length part / size ≡ c) where
  bytes_are : read_bytes (read_from size first c part) ≡ bytes_of 2 (2 + 3 * c) ++ (bytes_of 2 first ++ cells_bytes (run 0 (length part / size) (cell_at size part)))
  unfolding read_bytes
  bytes_are =
      ap₂ (λ (n k : ℕ). bytes_of 2 (2 + 3 * n) ++ (bytes_of 2 first ++ cells_bytes (run 0 k (cell_at size part)))) (length_run 0 c (cell_at size part)) (sym filled)

  pub read-laid : (l : List ℕ) (to : ℕ) → to + (4 + 3 * c) ≤ length l
      → laid (to + 4) (cells_bytes (run 0 (length part / size) (cell_at size part))) (laid (to + 2) (bytes_of 2 first) (laid to (bytes_of 2 (2 + 3 * c)) l))
      ≡ laid to (read_bytes (read_from size first c part)) l
  unfolding bytes_of
  read-laid l to h =
      let a : List ℕ = bytes_of 2 (2 + 3 * c) in
      let f : List ℕ = bytes_of 2 first in
      let x : List ℕ = cells_bytes (run 0 (length part / size) (cell_at size part)) in
      ap (laid (to + 4) x) (laid_join to a f l (omega arith))
      ∙ laid_join to (a ++ f) x l (omega arith)
      ∙ ap (λ (y : List ℕ). laid to y l) (sym bytes_are)

-- the header
pub head_laid : (l : List ℕ) (m n bytes : ℕ) → 9 ≤ length l
    → laid 7 (bytes_of 2 n) (laid 5 (bytes_of 2 m) (laid 1 (bytes_of 4 (4 + bytes)) (set l 0 2))) ≡ laid 0 (head_bytes m n bytes) l
unfolding bytes_of head_bytes
head_laid l m n bytes h =
    let a : List ℕ = 2 ∷ bytes_of 4 (4 + bytes) in
    let p1 : laid 1 (bytes_of 4 (4 + bytes)) (set l 0 2) ≡ laid 0 a l =
    ap (laid 1 (bytes_of 4 (4 + bytes))) (set-laid l 0 2 (omega arith)) ∙ laid_join 0 (2 ∷ []) (bytes_of 4 (4 + bytes)) l (omega arith) in
    let p2 : laid 5 (bytes_of 2 m) (laid 0 a l) ≡ laid 0 (a ++ bytes_of 2 m) l = laid_join 0 a (bytes_of 2 m) l (omega arith) in
    let p3 : laid 7 (bytes_of 2 n) (laid 0 (a ++ bytes_of 2 m) l) ≡ laid 0 ((a ++ bytes_of 2 m) ++ bytes_of 2 n) l = laid_join 0 (a ++ bytes_of 2 m) (bytes_of 2 n) l (omega arith) in
    ap (λ (x : List ℕ). laid 7 (bytes_of 2 n) (laid 5 (bytes_of 2 m) x)) p1 ∙ ap (laid 7 (bytes_of 2 n)) p2 ∙ p3
