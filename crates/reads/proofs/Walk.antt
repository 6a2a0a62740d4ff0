-- The walk over the reads: one read as the loops of `first_fault` meet it, and what is left to do after it.
use Prim.Native.Nat.{ℕ, suc, ◌+◌, ◌-◌, ◌*◌, ◌/◌, ◌≤◌, ◌<◌}
use mathlib.Core.Bool.{Bool, true, false, cond}
use mathlib.Core.List.{List}
use mathlib.Core.Logic.{◌≢◌}
use mathlib.Core.Path.{◌≡◌, sym, ap, ap₂, ◌∙◌}
use native.Mathlib.Nat.{div-eq_of_eq-mul_right}
use native.Mathlib.Numerals.{add-one}
use native.Mathlib.Omega.{arith}
use lib.ListN.{length, take, drop, length-take, length-drop}
use lib.Dec.{eqb}
use lib.Seq.{drop-drop}
use borrow.Author.Tests.{eq-eqb, ne_eqb}
use Rattle.meaning.specs.Numbers.{any_to}
use Rattle.meaning.specs.Block.{length_field, cell_count, cells_part, cell_at, after_read, after_reads}
use Rattle.meaning.specs.Refusals.{Numbers, passed, bad_length, retired, bad_place, bad_cells, read_fault, reads_fault}
use Rattle.refusal.specs.declared.Refusal.{Refusal}
use Rattle.refusal.specs.Numbers.{refusal_number, refusal_second, refusal_numbers}
use Rattle.refusal.proofs.Told.{refusal-numbered}
use Rattle.layout.specs.declared.shape.Shape.{Shape}
use Rattle.reads.specs.declared.Cells.{Cells}
use Rattle.reads.specs.Search.{head_fault, CellsLie}
use Rattle.reads.specs.Cells.{faulty_cell}
use Rattle.reads.proofs.CellChecks.{found_faulty, none_faulty}

-- the checks 5, 38 and 6 decide where they apply, and leave it to the cells where not
abbrev decided : Bool → Bool → Bool → ℕ → ℕ
decided x v y k = cond x 5 (cond v 38 (cond y 6 k))

module _ (size m : ℕ) (b : List ℕ) where
  abbrev faulty : Bool
  faulty = bad_cells (cell_count size b) (cell_at size (cells_part b))

  head_stop : (f : ℕ) → f ≡ head_fault size m b → f ≢ 0 → f ≡ read_fault size m b
  unfolding read_fault
  head_stop f e z = go (bad_length size b) (retired size b) (bad_place size m b) e
    where
      go : (x v y : Bool) → f ≡ decided x v y 0 → f ≡ decided x v y (cond faulty 7 0)
      go true v y h = h
      go false true y h = h
      go false false true h = h
      go false false false h = absurd (z h)

  head_pass : head_fault size m b ≡ 0 → (t : Bool) → t ≡ faulty → cond t 7 0 ≡ read_fault size m b
  unfolding read_fault
  head_pass = go (bad_length size b) (retired size b) (bad_place size m b)
    where
      go : (x v y : Bool) → decided x v y 0 ≡ 0 → (t : Bool) → t ≡ faulty → cond t 7 0 ≡ decided x v y (cond faulty 7 0)
      go true v y h t e = let z : ⊥ = omega arith in absurd z
      go false true y h t e = let z : ⊥ = omega arith in absurd z
      go false false true h t e = let z : ⊥ = omega arith in absurd z
      go false false false h t e = ap (λ (x : Bool). cond x 7 0) e

-- the cells of the read at `at`, as the part of the bytes where they lie
module _ (size : ℕ) (some : 0 < size) (reads : List ℕ) (at : ℕ) (cells : Cells) (lie : CellsLie size reads at cells) where
  abbrev part : List ℕ
  part = take (cells.end - cells.start) (drop cells.start reads)

  cells_are : part ≡ cells_part (drop at reads)
  cells_are =
      let e : cells.end - cells.start ≡ length_field (drop at reads) - 2 = omega arith in
      ap₂ (λ (n : ℕ) (l : List ℕ). take n l) e (ap (λ (k : ℕ). drop k reads) lie.starts ∙ sym (drop-drop 4 at reads))

  cells-filled : length part ≡ size * cell_count size (drop at reads)
  cells-filled = length-take (cells.end - cells.start) (drop cells.start reads) ∙ omega (arith, length-drop cells.start reads)

  count_is : length part / size ≡ cell_count size (drop at reads)
  count_is = div-eq_of_eq-mul_right some cells-filled

  whole : length part ≡ size * (length part / size)
  whole = cells-filled ∙ ap (λ (c : ℕ). size * c) (sym count_is)

  module _ (m : ℕ) (head : head_fault size m (drop at reads) ≡ 0) where
    by_cells : (t : Bool) → t ≡ bad_cells (length part / size) (cell_at size part) → cond t 7 0 ≡ read_fault size m (drop at reads)
    by_cells t e = head_pass size m (drop at reads) head t (e ∙ ap₂ (λ (c : ℕ) (p : List ℕ). bad_cells c (cell_at size p)) count_is cells_are)

    pub faulty_read : (i : ℕ) → i < length part / size → faulty_cell size part i ≡ true → 7 ≡ read_fault size m (drop at reads)
    faulty_read i l h = by_cells true (found_faulty size some part _ whole i l h)

    pub sound-read : (i : ℕ) → i ≤ length part / size → length part / size ≤ i → any_to i (faulty_cell size part) ≡ false
        → 0 ≡ read_fault size m (drop at reads)
    sound-read i l g h =
        let e : length part / size ≡ i = omega arith in
        by_cells false (none_faulty size some part _ whole (ap (λ (k : ℕ). any_to k (faulty_cell size part)) e ∙ h))

-- 5, 38, 6 or 7 of the read that b starts with, and of the n reads from read r on
abbrev fault_of : Shape → List ℕ → ℕ
fault_of s b = read_fault s.size s.m b

abbrev fault_from : Shape → ℕ → ℕ → List ℕ → Numbers
fault_from s n r b = reads_fault s.size s.m n r b

-- the first r reads passed, and read r starts at `at`: what is left gives what all give
pub record Left (s : Shape) (reads : List ℕ) (at r : ℕ) : Type 0 where
  pub fault : fault_from s s.n 0 reads ≡ fault_from s (s.n - r) r (drop at reads)
  pub after : after_reads s.n reads ≡ after_reads (s.n - r) (drop at reads)

module _ (s : Shape) (reads : List ℕ) (at r : ℕ) (left : Left s reads at r) where
  abbrev here : List ℕ
  here = drop at reads

  -- the answer by whether the read at `at` passes
  abbrev answer : Bool → Numbers
  answer passes = cond passes (fault_from s (s.n - (r + 1)) (suc r) (after_read here)) (record { number = fault_of s here; second = r })

  more : r < s.n → s.n - r ≡ suc (s.n - (r + 1))
  more h = omega arith

  by_read : r < s.n → (passes : Bool) → eqb (fault_of s here) 0 ≡ passes → fault_from s s.n 0 reads ≡ answer passes
  unfolding reads_fault
  by_read h passes e = left.fault ∙ ap (λ (k : ℕ). fault_from s k r here) (more h) ∙ ap answer e

  pub left_stop : (f : ℕ) → r < s.n → f ≡ fault_of s here → f ≢ 0 → record { number = f; second = r } ≡ fault_from s s.n 0 reads
  left_stop f h e z = ap (λ (k : ℕ). record { number = k; second = r }) e ∙ sym (by_read h false (ne_eqb _ 0 (λ q. z (e ∙ q))))

  -- the checks 5, 38 and 6 refuse the read at `at`
  pub head_refused : (e : Refusal) → r < s.n → refusal_number e ≡ head_fault s.size s.m here → refusal_second e ≡ r
      → refusal_numbers e ≡ fault_from s s.n 0 reads
  head_refused e h n k =
      ap (λ (x : ℕ). record { number = refusal_number e; second = x }) k
      ∙ left_stop (refusal_number e) h (head_stop s.size s.m here _ n (refusal-numbered e)) (refusal-numbered e)

  pub left_on : (end : ℕ) → r < s.n → 0 ≡ fault_of s here → end ≡ at + (2 + length_field here) → Left s reads end (r + 1)
  unfolding after_reads
  left_on end h e q =
      let n : ℕ = s.n - (r + 1) in
      let d : after_read here ≡ drop end reads = drop-drop (2 + length_field here) at reads ∙ ap (λ (k : ℕ). drop k reads) (sym q) in
      record {
        fault = by_read h true (eq-eqb _ 0 (sym e)) ∙ ap₂ (λ (i : ℕ) (b : List ℕ). fault_from s n i b) (sym (add-one r)) d;
        after = left.after ∙ ap (λ (k : ℕ). after_reads k here) (more h) ∙ ap (after_reads n) d;
      }

  module _ (all : s.n ≤ r) where
    none : s.n - r ≡ 0
    none = omega arith

    pub left_none : passed ≡ fault_from s s.n 0 reads
    unfolding reads_fault
    left_none = sym (left.fault ∙ ap (λ (k : ℕ). fault_from s k r here) none)

    pub left_end : at ≤ length reads → at + length (after_reads s.n reads) ≡ length reads
    unfolding after_reads
    left_end h =
        let d : length (after_reads s.n reads) ≡ length here = ap length (left.after ∙ ap (λ (k : ℕ). after_reads k here) none) in
        omega (arith, length-drop at reads)
