-- Where read r stands among the bytes, and what the checks 5, 38, 6 and 7 leave of it, in cells of any size.
use Prim.Native.Nat.{ℕ, zero, suc, ◌+◌, ◌-◌, ◌*◌, ◌/◌, ◌%◌, ◌^◌, ◌≤◌, ◌<◌}
use borrow.Author.Tests.{ltb-false, eqb-true, not-false, eq-eqb}
use lib.Dec.{eqb, ltb}
use lib.ListN.{length, take, drop, length-drop}
use lib.Seq.{drop-drop}
use mathlib.Core.Bool.{Bool, false, not, ◌&&◌}
use mathlib.Core.List.{List}
use mathlib.Core.Path.{◌≡◌, refl, sym, ap, ap₂, ◌∙◌, subst}
use native.Mathlib.Nat.{div-add-mod', mul_comm, mul-le-mul_left, le_trans, le_of_eq}
use native.Mathlib.Numerals.{add-one}
use native.Mathlib.Omega.{arith}
use Rattle.meaning.specs.Numbers.{word}
use Rattle.meaning.specs.Block.{Cell, Read, length_field, first_field, cell_count, cells_part, read_of, after_read, after_reads}
use Rattle.meaning.specs.Active.{count, read, end}
use Rattle.meaning.specs.Refusals.{bad_length, bad_cell}
use Rattle.meaning.proofs.Closing.{Placed, length-active}
use Rattle.meaning.proofs.Bounds.{Light, Bytes, reads-light}
use Rattle.meaning.proofs.Formed.{sound_placed, length-reads, get_or-reads, end_of, sound-end}
use Rattle.meaning.proofs.Refusals.{or_false_left, or_false_right}
use Rattle.layout.specs.declared.runs.Place.{Place}
use Rattle.layout.specs.declared.runs.Column.{Column}
use Rattle.layout.specs.declared.shape.Shape.{Shape}
use Rattle.layout.specs.Cells.{CellSize}
use Rattle.layout.specs.Reads.{matrix_in, Lawful}
use Rattle.layout.specs.Places.{read_start, cells_start}
use Rattle.layout.specs.Lists.{Thin}
use Rattle.layout.specs.Ready.{Ready}
use Rattle.layout.proofs.Fields.{length_field_lem}

-- after one read more
pub after_more : (n : ℕ) (b : List ℕ) → after_reads (suc n) b ≡ after_read (after_reads n b)
unfolding after_reads
after_more zero b = refl
after_more (suc n) b = after_more n (after_read b)

-- read r stands where the reads before it end
pub read_start_lem : (b : List ℕ) (r : ℕ) → drop (read_start b r) b ≡ after_reads r b
unfolding read_start after_reads
read_start_lem b zero = refl
read_start_lem b (suc r) =
    sym (drop-drop (2 + length_field (drop (read_start b r) b)) (read_start b r) b)
    ∙ ap after_read (read_start_lem b r)
    ∙ sym (after_more r b)

-- and the next one behind it
pub start_more : (b : List ℕ) (r : ℕ) → read_start b (r + 1) ≡ read_start b r + (2 + word b (read_start b r))
unfolding read_start
start_more b r = ap (read_start b) (add-one r) ∙ ap (λ (l : ℕ). read_start b r + (2 + l)) (length_field_lem b (read_start b r))

-- what the check 5 leaves of a read's length
pub record Filled (size : ℕ) (b : List ℕ) : Type 0 where
  pub some : 2 ≤ length_field b
  pub whole : length_field b ≡ 2 + size * cell_count size b
  pub inside : 2 + length_field b ≤ length b

pub filled : (size : ℕ) (b : List ℕ) → bad_length size b ≡ false → Filled size b
unfolding bad_length
filled size b h =
    let f = or_false_right (ltb (length b) 2) _ h in
    let g = or_false_right (ltb (length_field b) 2) _ f in
    let s : 2 ≤ length_field b = ltb-false (length_field b) 2 (or_false_left (ltb (length_field b) 2) _ f) in
    let e : (length_field b - 2) % size ≡ 0 = eqb-true _ 0 (not-false _ (or_false_left (not (eqb ((length_field b - 2) % size) 0)) _ g)) in
    let d : (length_field b - 2) / size * size + (length_field b - 2) % size ≡ length_field b - 2 = div-add-mod' (length_field b - 2) size in
    let c : size * cell_count size b ≡ cell_count size b * size = mul_comm size (cell_count size b) in
    record {
      some = s;
      whole = omega arith;
      inside = ltb-false (length b) (2 + length_field b) (or_false_right (not (eqb ((length_field b - 2) % size) 0)) _ g);
    }

-- a cell that the check 7 leaves
pub record Good (c : Cell) : Type 0 where
  pub letter-known : c.letter ≤ 2
  pub hole_weightless : c.letter ≡ 2 → c.weight ≡ 0

pub good : (c : Cell) → bad_cell c ≡ false → Good c
unfolding bad_cell
good c h =
    record {
      letter-known = ltb-false 2 c.letter (or_false_left (ltb 2 c.letter) _ h);
      hole_weightless = λ e.
          let z : c.weight ≤ 0 =
          ltb-false 0 c.weight (sym (ap (λ (t : Bool). t && ltb 0 c.weight) (eq-eqb c.letter 2 e)) ∙ or_false_right (ltb 2 c.letter) _ h) in
          omega arith;
    }

-- read r of lawful reads
module _ (s : Shape) (reads : List ℕ) (lawful : Lawful s reads) (r : ℕ) (l : r < s.n) where
  -- the bytes from it on
  abbrev here : List ℕ
  here = after_reads r reads

  pub read-filled : Filled s.size here
  read-filled = filled s.size here (lawful.sound r l).sized

  pub read_is : read (matrix_in s reads) r ≡ read_of s.size here
  read_is = get_or-reads s.size s.n reads r l

  pub read_first : (read (matrix_in s reads) r).first ≡ first_field here
  unfolding read_of
  read_first = ap (λ (x : Read). x.first) read_is

  pub read-end : end (read (matrix_in s reads) r) ≡ first_field here + cell_count s.size here
  read-end = ap end read_is ∙ end_of s.size here

  pub read-inside : end (read (matrix_in s reads) r) ≤ s.m
  read-inside = subst (λ (x : Read). end x ≤ s.m) (sym read_is) (sound-end s.size s.m here (lawful.sound r l))

  -- its cells are a part of the bytes
  pub cell-count : end (read (matrix_in s reads) r) - (read (matrix_in s reads) r).first ≡ cell_count s.size here
  cell-count = omega (arith, read_first, read-end)

  pub cells_bytes_lem : s.size * (end (read (matrix_in s reads) r) - (read (matrix_in s reads) r).first) ≡ length_field here - 2
  cells_bytes_lem = ap (λ (c : ℕ). s.size * c) cell-count ∙ omega (arith, read-filled)

  pub cells_part_lem : take (s.size * (end (read (matrix_in s reads) r) - (read (matrix_in s reads) r).first)) (drop (cells_start reads r) reads) ≡ cells_part here
  cells_part_lem = ap₂ (λ (n : ℕ) (p : List ℕ). take n p) cells_bytes_lem (sym (drop-drop 4 (read_start reads r) reads) ∙ ap (drop 4) (read_start_lem reads r))

  pub cells-inside : cells_start reads r + s.size * (end (read (matrix_in s reads) r) - (read (matrix_in s reads) r).first) ≤ length reads
  cells-inside = omega (arith, cells_bytes_lem, read-filled, ap length (read_start_lem reads r), length-drop (read_start reads r) reads)

-- they are n
pub count_is : (s : Shape) (reads : List ℕ) → count (matrix_in s reads) ≡ s.n
count_is s reads = length-reads s.size s.n reads

-- each read ends by the last column
pub lawful_placed : (s : Shape) (reads : List ℕ) → Lawful s reads → Placed (matrix_in s reads)
lawful_placed s reads lawful = sound_placed s.size s.m s.n reads lawful.sound

-- cell i of n ends among their bytes
pub cell-fits : (size i n : ℕ) → i < n → size * i + size ≤ size * n
cell-fits size i n l = let h : size * suc i ≤ size * n = mul-le-mul_left size l in omega arith

-- no weight of a cell is above 65,535
heaviest : (size : ℕ) → CellSize size → 256 ^ (size - 1) - 1 ≤ 65535
heaviest zero h = omega arith
heaviest (suc zero) h = omega arith
heaviest (suc (suc zero)) h = omega arith
heaviest (suc (suc (suc zero))) h = omega arith
heaviest (suc (suc (suc (suc n)))) h = absurd (omega (arith, h.1))

pub lawful-light : (s : Shape) (reads : List ℕ) → Lawful s reads → Bytes reads → Light (matrix_in s reads) 65535
lawful-light s reads lawful bytes r j = le_trans (reads-light s.size s.n reads bytes r j) (heaviest s.size lawful.cell)

-- reads that are ready have twelve active reads at most
pub ready-thin : (s : Shape) (reads : List ℕ) (places : List Place) (lists : List Column) → Ready s reads places lists → Thin (matrix_in s reads)
ready-thin s reads places lists ready j l =
    le_trans (le_of_eq (sym (length-active (matrix_in s reads) (lawful_placed s reads ready.lawful) j))) (ready.piled.few j l)
