-- The checks 1 to 8 one after the other, as `checked` meets them.
use Prim.Native.Nat.{ℕ, ◌+◌, ◌-◌, ◌≤◌, ◌<◌}
use mathlib.Core.Bool.{Bool, true, false}
use mathlib.Core.List.{List}
use mathlib.Core.Logic.{◌≢◌}
use mathlib.Core.Path.{◌≡◌, sym, ap, ◌∙◌}
use native.Mathlib.Omega.{arith}
use lib.ListN.{length, take, drop, length-drop}
use lib.Seq.{take_all}
use borrow.Author.Tests.{lt-ltb, le-ltb}
use Rattle.meaning.specs.Block.{latest, columns_field, reads_field, cell_size, after_reads, reads_part, matrix_of}
use Rattle.meaning.specs.Refusals.{Numbers, passed, refuse, or_else, header_refusal, reads_fault, left_over, block_refusal}
use Rattle.meaning.proofs.Formed.{reads-sound}
use Rattle.meaning.proofs.Refusals.{or_pass, or_stop}
use Rattle.layout.specs.declared.shape.Shape.{Shape}
use Rattle.header.specs.Header.{Sized}
use Rattle.layout.specs.Reads.{matrix_in, Lawful}

module _ (b : List ℕ) where
  -- the reads, as the code cuts them off
  pub part_is : take (length b - 9) (drop 9 b) ≡ reads_part b
  part_is = take_all (length b - 9) (drop 9 b) (omega (arith, length-drop 9 b))

  pub header_stop : (x : Numbers) → x ≡ header_refusal latest b → x.number ≢ 0 → x ≡ block_refusal latest b
  unfolding block_refusal
  header_stop x e z = e ∙ sym (or_stop (header_refusal latest b) _ (λ q. z (ap (λ (y : Numbers). y.number) e ∙ q)))

  module _ (s : Shape) (head : header_refusal latest b ≡ passed) (sized : Sized b s) where
    abbrev search : Numbers
    search = reads_fault s.size s.m s.n 0 (reads_part b)

    search_is : search ≡ reads_fault (cell_size b) (columns_field b) (reads_field b) 0 (reads_part b)
    search_is = simp (sized.size_is, sized.columns, sized.reads)

    behind_header : or_else search (refuse (left_over b) 8 0) ≡ block_refusal latest b
    unfolding block_refusal
    behind_header =
        ap (λ (x : Numbers). or_else x (refuse (left_over b) 8 0)) search_is
        ∙ sym (or_pass (header_refusal latest b) _ (ap (λ (y : Numbers). y.number) head))

    pub search_stop : (x : Numbers) → x ≡ search → x.number ≢ 0 → x ≡ block_refusal latest b
    search_stop x e z = e ∙ sym (or_stop search _ (λ q. z (ap (λ (y : Numbers). y.number) e ∙ q))) ∙ behind_header

    -- the reads and the matrix of a block whose search finds no fault
    pub reads_lawful : passed ≡ search → Lawful s (reads_part b)
    reads_lawful found =
        record {
          cell = sized.cell;
          some-column = sized.some-column;
          few-columns = sized.few-columns;
          few-reads = sized.few-reads;
          sound = reads-sound s.size s.m s.n 0 (reads_part b) (ap (λ (y : Numbers). y.number) (sym found));
        }

    pub same_matrix : matrix_in s (reads_part b) ≡ matrix_of b
    unfolding matrix_of
    same_matrix = simp (sized.size_is, sized.columns, sized.reads)

    module _ (found : passed ≡ search) (at : ℕ) (end : at + length (after_reads s.n (reads_part b)) ≡ length (reads_part b)) where
      behind_search : (t : Bool) → left_over b ≡ t → refuse t 8 0 ≡ block_refusal latest b
      behind_search t e =
          ap (λ (x : Bool). refuse x 8 0) (sym e)
          ∙ sym (or_pass search _ (ap (λ (y : Numbers). y.number) (sym found)))
          ∙ behind_header

      rest_is : length (after_reads (reads_field b) (reads_part b)) ≡ length (after_reads s.n (reads_part b))
      rest_is = ap (λ (k : ℕ). length (after_reads k (reads_part b))) (sym sized.reads)

      pub some_left : at < length (reads_part b) → record { number = 8; second = 0 } ≡ block_refusal latest b
      unfolding left_over refuse
      some_left h = behind_search true (lt-ltb 0 (length (after_reads (reads_field b) (reads_part b))) (omega (arith, rest_is)))

      pub none_left : length (reads_part b) ≤ at → passed ≡ block_refusal latest b
      unfolding left_over refuse
      none_left h = behind_search false (le-ltb 0 (length (after_reads (reads_field b) (reads_part b))) (omega (arith, rest_is)))
