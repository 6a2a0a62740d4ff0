-- The check 7, cell by cell: one faulty cell as the branches of `cell_bad` meet it, and all of a read's cells.
use Prim.Native.Nat.{ℕ, suc, ◌+◌, ◌-◌, ◌*◌, ◌≤◌, ◌<◌}
use mathlib.Core.Bool.{Bool, true, false, ◌&&◌, ◌||◌, or-true, and-true}
use mathlib.Core.List.{List}
use mathlib.Core.Logic.{◌≢◌, ◌⊎◌, ⊎_elim}
use mathlib.Core.Path.{◌≡◌, refl, sym, ap, ◌∙◌}
use native.Mathlib.Nat.{eq_of_mul-eq-mul_left}
use native.Mathlib.Omega.{arith}
use lib.ListN.{length, get_or}
use lib.Dec.{eqb, ltb}
use borrow.Author.Tests.{lt-ltb, le-ltb, eq-eqb, ne_eqb, eqb-true, ltb-true}
use Rattle.meaning.specs.Numbers.{big_endian, any_to}
use Rattle.meaning.specs.Block.{Cell, cell_at}
use Rattle.meaning.specs.Refusals.{bad_cell, is_hole, bad_cells}
use Rattle.meaning.proofs.Lists.{any_at, or_true_cases, and_left, and_right}
use Rattle.meaning.proofs.Refusals.{or_false_left, or_false_right}
use Rattle.layout.proofs.Tests.{none_at, none_of}
use Rattle.reads.specs.Cells.{faulty_cell}

-- one cell
module _ (size : ℕ) (part : List ℕ) (i : ℕ) where
  pub is_letter : get_or part (size * i) 0 < 2 → false ≡ faulty_cell size part i
  unfolding faulty_cell bad_cell is_hole cell_at
  is_letter h =
      let l : get_or part (size * i) 0 ≤ 2 = omega arith in
      let n : get_or part (size * i) 0 ≢ 2 = omega arith in
      sym (simp (le-ltb 2 (get_or part (size * i) 0) l, ne_eqb (get_or part (size * i) 0) 2 n))

  pub is_above : 2 < get_or part (size * i) 0 → true ≡ faulty_cell size part i
  unfolding faulty_cell bad_cell cell_at
  is_above h = sym (simp (lt-ltb 2 (get_or part (size * i) 0) h))

  -- a hole, and its weight
  module _ (hole : get_or part (size * i) 0 ≡ 2) (w : ℕ) (is : w ≡ big_endian (size - 1) part (size * i + 1)) where
    pub is_weighted : w ≢ 0 → true ≡ faulty_cell size part i
    unfolding faulty_cell bad_cell cell_at
    is_weighted h = let l : 0 < w = omega arith in sym (simp (hole, sym is, lt-ltb 0 w l))

    by_place : w ≡ 0 → (eqb i 0 || eqb (size * i + size) (length part)) ≡ faulty_cell size part i
    unfolding faulty_cell bad_cell is_hole cell_at
    by_place h = sym (simp (hole, sym is, h))

    pub is_first : w ≡ 0 → i ≡ 0 → true ≡ faulty_cell size part i
    is_first h z = sym (ap (λ (t : Bool). t || eqb (size * i + size) (length part)) (eq-eqb i 0 z)) ∙ by_place h

    pub is_last : w ≡ 0 → i ≢ 0 → eqb (size * i + size) (length part) ≡ faulty_cell size part i
    is_last h z = sym (ap (λ (t : Bool). t || eqb (size * i + size) (length part)) (ne_eqb i 0 z)) ∙ by_place h

-- all cells of a read, c of them
module _ (c : ℕ) (cell : ℕ → Cell) where
  bad_one : (i : ℕ) → i < c → bad_cell (cell i) ≡ true → bad_cells c cell ≡ true
  unfolding bad_cells
  bad_one i l h = simp (any_at c (λ k. bad_cell (cell k)) i l h)

  bad_first : 0 < c → is_hole (cell 0) ≡ true → bad_cells c cell ≡ true
  unfolding bad_cells
  bad_first l h = simp (lt-ltb 0 c l, h, or-true)

  bad_last : 0 < c → is_hole (cell (c - 1)) ≡ true → bad_cells c cell ≡ true
  unfolding bad_cells
  bad_last l h = simp (lt-ltb 0 c l, h, or-true)

  bad_none : any_to c (λ k. bad_cell (cell k)) ≡ false → (0 < c → is_hole (cell 0) ≡ false) → (0 < c → is_hole (cell (c - 1)) ≡ false)
      → bad_cells c cell ≡ false
  unfolding bad_cells
  bad_none e f g = go (ltb 0 c) refl
    where
      go : (t : Bool) → ltb 0 c ≡ t → (any_to c (λ k. bad_cell (cell k)) || (t && (is_hole (cell 0) || is_hole (cell (c - 1))))) ≡ false
      go true q = let l : 0 < c = ltb-true 0 c q in simp (e, f l, g l)
      go false q = simp e

-- the cell that ends the part is the last of c
ends_last : (size i c : ℕ) → 0 < size → size * i + size ≡ size * c → c - 1 ≡ i
ends_last size i c s e = omega (arith, eq_of_mul-eq-mul_left size s (suc i) c (omega arith))

last_ends : (size c : ℕ) → 0 < c → size * (c - 1) + size ≡ size * c
last_ends size c l =
    let e : c ≡ c - 1 + 1 = omega arith in
    omega (arith, ap (λ (k : ℕ). size * k) e)

module _ (size : ℕ) (some : 0 < size) (part : List ℕ) (c : ℕ) (filled : length part ≡ size * c) where
  pub found_faulty : (i : ℕ) → i < c → faulty_cell size part i ≡ true → true ≡ bad_cells c (cell_at size part)
  unfolding faulty_cell
  found_faulty i l h =
      sym (⊎_elim
      (bad_one c (cell_at size part) i l)
      (λ p. at-end (and_left (is_hole (cell_at size part i)) _ p) (or_true_cases (eqb i 0) _ (and_right (is_hole (cell_at size part i)) _ p)))
      (or_true_cases (bad_cell (cell_at size part i)) _ h))
    where
      at-end : is_hole (cell_at size part i) ≡ true → (eqb i 0 ≡ true) ⊎ (eqb (size * i + size) (length part) ≡ true)
          → bad_cells c (cell_at size part) ≡ true
      at-end q =
          ⊎_elim
          (λ e. bad_first c (cell_at size part) (omega arith) (ap (λ (k : ℕ). is_hole (cell_at size part k)) (sym (eqb-true i 0 e)) ∙ q))
          (λ e. let w : c - 1 ≡ i = ends_last size i c some (eqb-true (size * i + size) (length part) e ∙ filled) in
          bad_last c (cell_at size part) (omega arith) (ap (λ (k : ℕ). is_hole (cell_at size part k)) w ∙ q))

  pub none_faulty : any_to c (faulty_cell size part) ≡ false → false ≡ bad_cells c (cell_at size part)
  unfolding faulty_cell
  none_faulty h =
      sym (bad_none c (cell_at size part)
      (none_of c (λ k. bad_cell (cell_at size part k)) (λ i l. or_false_left (bad_cell (cell_at size part i)) _ (none i l)))
      (λ l. no_hole 0 l (eq-eqb 0 0 refl))
      (λ l. let e = eq-eqb _ _ (last_ends size c l ∙ sym filled) in
      no_hole (c - 1) (omega arith) (ap (λ (t : Bool). eqb (c - 1) 0 || t) e ∙ or-true (eqb (c - 1) 0))))
    where
      none : (i : ℕ) → i < c → faulty_cell size part i ≡ false
      none i l = none_at c (faulty_cell size part) h i l

      no_hole : (i : ℕ) → i < c → (eqb i 0 || eqb (size * i + size) (length part)) ≡ true → is_hole (cell_at size part i) ≡ false
      no_hole i l e =
          sym (and-true (is_hole (cell_at size part i)))
          ∙ ap (λ (t : Bool). is_hole (cell_at size part i) && t) (sym e)
          ∙ or_false_right (bad_cell (cell_at size part i)) _ (none i l)
