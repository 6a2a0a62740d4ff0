-- The checks 5, 38 and 6 of the read that a part of the bytes starts with, as the branches of `read_head` meet them.
use Prim.Native.Nat.{ℕ, ◌+◌, ◌-◌, ◌*◌, ◌/◌, ◌%◌, ◌≤◌, ◌<◌}
use mathlib.Core.Bool.{Bool, true, false, cond, not, ◌&&◌, ◌||◌, or-true}
use mathlib.Core.List.{List}
use mathlib.Core.Logic.{◌≢◌}
use mathlib.Core.Path.{◌≡◌, refl, sym, ap, ◌∙◌}
use native.Mathlib.Nat.{div-add-mod', mul_comm}
use native.Mathlib.Omega.{arith}
use lib.ListN.{length, drop, length-drop}
use lib.Dec.{eqb}
use borrow.Author.Tests.{lt-ltb, le-ltb, eq-eqb, ne_eqb, eqb-true}
use Rattle.meaning.specs.Block.{length_field, first_field, cell_count}
use Rattle.meaning.specs.Refusals.{bad_length, retired, bad_place}
use Rattle.meaning.proofs.Tells.{tells_true, tells_false}
use Rattle.meaning.proofs.ReadChecks.{NotRetired, retired_tells}
use Rattle.meaning.specs.Numbers.{word}
use Rattle.layout.proofs.Fields.{length_field_lem}
use Rattle.layout.proofs.Laws.{Filled, filled}
use Rattle.reads.specs.Search.{head_fault, CellsLie}

-- whole cells, by what is left of a division and by what it gives
filled_by : (size n : ℕ) → n % size ≡ 0 → size * (n / size) ≡ n
filled_by size n e = omega (arith, mul_comm size (n / size), div-add-mod' n size)

left_by : (size n : ℕ) → size * (n / size) ≡ n → n % size ≡ 0
left_by size n e = omega (arith, mul_comm size (n / size), div-add-mod' n size)

-- the read at `at`, by its length field and its number of cells as the code has them
pub record Seen (size : ℕ) (reads : List ℕ) (at len count : ℕ) : Type 0 where
  pub bytes_are : length (drop at reads) ≡ length reads - at
  pub length_is : length_field (drop at reads) ≡ len
  pub count_is : cell_count size (drop at reads) ≡ count

pub seen : (size : ℕ) (reads : List ℕ) (at len count : ℕ) → len ≡ word reads at → count ≡ (len - 2) / size → Seen size reads at len count
seen size reads at len count w c =
    let n : length_field (drop at reads) ≡ len = length_field_lem reads at ∙ sym w in
    record { bytes_are = length-drop at reads; length_is = n; count_is = ap (λ (l : ℕ). (l - 2) / size) n ∙ sym c }

-- the check 5 passes
pub record Whole (size : ℕ) (b : List ℕ) : Type 0 where
  pub some : 2 ≤ length_field b
  pub filled : (length_field b - 2) % size ≡ 0
  pub inside : 2 + length_field b ≤ length b

pub is_whole : (size : ℕ) (reads : List ℕ) (at len count : ℕ) → Seen size reads at len count → 2 ≤ len → size * count ≡ len - 2 → len + 2 ≤ length reads - at
    → Whole size (drop at reads)
is_whole size reads at len count s some filled inside =
    let b : List ℕ = drop at reads in
    record {
      some = omega arith;
      filled = left_by size (length_field b - 2) (ap (λ (k : ℕ). size * k) s.count_is ∙ filled ∙ ap (λ (l : ℕ). l - 2) (sym s.length_is));
      inside = omega arith;
    }

pub good_length : (size : ℕ) (b : List ℕ) → Whole size b → bad_length size b ≡ false
unfolding bad_length
good_length size b w =
    let l : 2 ≤ length b = omega arith in
    let e = eq-eqb ((length_field b - 2) % size) 0 w.filled in
    simp (le-ltb (length b) 2 l, le-ltb (length_field b) 2 w.some, e, le-ltb (length b) (2 + length_field b) w.inside)

module _ (size m : ℕ) (b : List ℕ) where
  by_length : bad_length size b ≡ true → 5 ≡ head_fault size m b
  by_length h = sym (ap (λ (t : Bool). cond t 5 (cond (retired size b) 38 (cond (bad_place size m b) 6 0))) h)

  pub cut_off : length b < 2 → 5 ≡ head_fault size m b
  unfolding bad_length
  cut_off h = by_length (simp (lt-ltb (length b) 2 h))

  pub too_small : length_field b < 2 → 5 ≡ head_fault size m b
  unfolding bad_length
  too_small h = by_length (simp (lt-ltb (length_field b) 2 h, or-true))

  pub unfilled : size * cell_count size b ≢ length_field b - 2 → 5 ≡ head_fault size m b
  unfolding bad_length
  unfilled h = by_length (simp (ne_eqb ((length_field b - 2) % size) 0 (λ e. h (filled_by size (length_field b - 2) e)), or-true))

  pub too_long : length b < 2 + length_field b → 5 ≡ head_fault size m b
  unfolding bad_length
  too_long h = by_length (simp (lt-ltb (length b) (2 + length_field b) h, or-true))

  module _ (whole : Whole size b) where
    pub emptied : size ≡ 3 → cell_count size b ≡ 0 → 38 ≡ head_fault size m b
    emptied z e = sym (simp (good_length size b whole, tells_true (retired_tells size b) (z, e)))

    by_place : NotRetired size b → (t : Bool) → bad_place size m b ≡ t → cond t 6 0 ≡ head_fault size m b
    by_place k t e = sym (simp (good_length size b whole, tells_false (retired_tells size b) k, e))

    pub misplaced : size ≢ 3 → cell_count size b ≡ 0 → first_field b ≢ 0 → 6 ≡ head_fault size m b
    unfolding bad_place
    misplaced z e n = by_place (λ s. absurd (z s)) true (simp (eq-eqb (cell_count size b) 0 e, ne_eqb (first_field b) 0 n))

    pub too_far : NotRetired size b → m < first_field b + cell_count size b → 6 ≡ head_fault size m b
    unfolding bad_place
    too_far k h = by_place k true (simp (lt-ltb m (first_field b + cell_count size b) h, or-true))

    pub well_placed : NotRetired size b → (cell_count size b ≡ 0 → first_field b ≡ 0) → first_field b + cell_count size b ≤ m → 0 ≡ head_fault size m b
    unfolding bad_place
    well_placed k n h = by_place k false (simp (le-ltb m (first_field b + cell_count size b) h) (go (eqb (cell_count size b) 0) refl))
      where
        go : (t : Bool) → eqb (cell_count size b) 0 ≡ t → ((t && not (eqb (first_field b) 0)) || false) ≡ false
        go true t = let e : first_field b ≡ 0 = n (eqb-true (cell_count size b) 0 t) in simp (eq-eqb (first_field b) 0 e)
        go false t = refl

-- where the cells lie of the read at `at` that passes the check 5, for its length field `len`
pub cells_lie : (size : ℕ) (reads : List ℕ) (at len : ℕ) → at ≤ length reads → length_field (drop at reads) ≡ len
    → bad_length size (drop at reads) ≡ false → CellsLie size reads at (record { start = at + 4; end = at + len + 2 })
cells_lie size reads at len l e h =
    let f : Filled size (drop at reads) = filled size (drop at reads) h in
    record { starts = refl; ends = omega arith; filled = omega arith; inside = omega (arith, length-drop at reads) }
