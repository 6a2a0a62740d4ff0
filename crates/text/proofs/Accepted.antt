-- An accepted call's output begins with its answer block, which is whole; and what is printed of it.
use Prim.Native.Nat.{ℕ, ◌≤◌, ◌<◌, ◌^◌}
use mathlib.Core.Path.{◌≡◌, sym, ap, ◌∙◌, subst}
use mathlib.Core.Bool.{true, false}
use mathlib.Core.List.{List, ◌++◌, map}
use native.Mathlib.Nat.{le_trans, le_of_eq}
use native.Mathlib.Omega.{arith}
use lib.ListN.{length, drop}
use Rattle.meaning.specs.Numbers.{word}
use Rattle.meaning.specs.Block.{Matrix, matrix_of}
use Rattle.meaning.specs.Division.{Division}
use Rattle.meaning.specs.Charge.{least_cost, best}
use Rattle.meaning.specs.Letters.{Mode, charge_in, haplotypes, flips}
use Rattle.meaning.specs.Answer.{answer_bytes, sides_of, letters_of, answer}
use Rattle.meaning.specs.Call.{Result, over, accepts, call_with}
use Rattle.meaning.proofs.Modes.{Fair}
use Rattle.meaning.proofs.Formed.{Accepted, matrix_reads, matrix_columns}
use Rattle.meaning.proofs.Bounds.{Bytes, cost-fits}
use Rattle.meaning.proofs.AnswerBytes.{cost_is, flips_is, reads_is, columns_is, block-length, sides_part, hap1_part, hap2_part, length-sides, length_letters}
use Rattle.meaning.proofs.Demand1.{demand1_accepted}
use Rattle.meaning.proofs.Decoded.{flips_limit}
use Rattle.lines.specs.Line.{decimal, mark, line, sides_word, hap1_word, hap2_word, sides_text}
use Rattle.text.specs.Text.{cost_word, flips_word, answer_text, text_of}
use Rattle.text.specs.Put.{Whole}

-- the lines of a cost, a number of flips, sides and both haplotypes
abbrev pub five_lines : ℕ → ℕ → List ℕ → List ℕ → List ℕ → List ℕ
five_lines cost flipped sides hap1 hap2 =
    line cost_word (decimal cost)
    ++ (line flips_word (decimal flipped)
    ++ (line sides_word (sides_text sides)
    ++ (line hap1_word (map mark hap1)
    ++ line hap2_word (map mark hap2))))

-- those of the reported division of a matrix
abbrev pub lines_in : Mode → Matrix → List ℕ
lines_in mode M =
    let d = best (charge_in mode) M in
    five_lines (least_cost (charge_in mode) M) (flips M d (haplotypes mode M d)) (sides_of M d) (letters_of mode M d false) (letters_of mode M d true)

module _ (cost flipped : ℕ) (sides hap1 hap2 rest : List ℕ)
    (few-reads : length sides ≤ 1024) (few-columns : length hap1 ≤ 1024) (same-columns : length hap2 ≡ length hap1) where
  abbrev block : List ℕ
  block = answer_bytes cost flipped sides hap1 hap2 ++ rest

  pub whole : Whole block
  whole =
      let r = reads_is cost flipped sides hap1 hap2 rest few-reads in
      let c = columns_is cost flipped sides hap1 hap2 rest few-columns in
      record {
        reads = omega arith;
        columns = omega arith;
        sized = omega (arith, block-length cost flipped sides hap1 hap2 rest);
      }

  pub block_lines : cost < 2 ^ 32 → flipped < 2 ^ 32 → answer_text block ≡ five_lines cost flipped sides hap1 hap2
  unfolding answer_text
  block_lines hc hf =
      rw (
        cost_is cost flipped sides hap1 hap2 rest hc,
        flips_is cost flipped sides hap1 hap2 rest hf,
        sides_part cost flipped sides hap1 hap2 rest few-reads few-columns,
        hap1_part cost flipped sides hap1 hap2 rest few-reads few-columns,
        hap2_part cost flipped sides hap1 hap2 rest few-reads few-columns same-columns,
      )

-- of an accepted call, in any mode
module _ (mode : Mode) (newest : ℕ) (b work out : List ℕ) (a : Accepted newest b (length work) (length out)) where
  abbrev M : Matrix
  M = matrix_of b

  abbrev d : Division
  d = best (charge_in mode) M

  abbrev rest : List ℕ
  rest = drop (length (answer mode M)) out

  few-sides : length (sides_of M d) ≤ 1024
  few-sides = le_trans (le_of_eq (length-sides M d ∙ matrix_reads b)) a.block.head.few-reads

  few_letters : length (letters_of mode M d false) ≤ 1024
  few_letters = le_trans (le_of_eq (length_letters M d mode false ∙ matrix_columns b)) a.block.head.few-columns

  same_letters : length (letters_of mode M d true) ≡ length (letters_of mode M d false)
  same_letters = length_letters M d mode true ∙ sym (length_letters M d mode false)

  pub accepted_columns : word (over (answer mode (matrix_of b)) out) 15 ≡ (matrix_of b).columns
  unfolding answer
  accepted_columns =
      columns_is (least_cost (charge_in mode) M) (flips M d (haplotypes mode M d)) (sides_of M d) (letters_of mode M d false) (letters_of mode M d true) rest
      few_letters
      ∙ length_letters M d mode false

  pub accepted_whole : Whole (call_with mode newest b work out).out
  unfolding accepts answer
  accepted_whole =
      subst (λ (r : Result). Whole r.out) (sym (demand1_accepted mode newest b work out a))
      (whole (least_cost (charge_in mode) M) (flips M d (haplotypes mode M d)) (sides_of M d) (letters_of mode M d false) (letters_of mode M d true) rest
      few-sides few_letters same_letters)

  -- the five lines of its answer: cost and flips fit their fields
  pub accepted_answer : Fair mode → Bytes b → answer_text (over (answer mode (matrix_of b)) out) ≡ lines_in mode (matrix_of b)
  unfolding answer
  accepted_answer fair bytes =
      let f : flips M d (haplotypes mode M d) ≤ 12288 = flips_limit newest b (length work) (length out) a d (haplotypes mode M d) in
      block_lines (least_cost (charge_in mode) M) (flips M d (haplotypes mode M d)) (sides_of M d) (letters_of mode M d false) (letters_of mode M d true) rest
      few-sides few_letters same_letters (cost-fits mode fair newest b (length work) (length out) bytes a) (omega arith)

  -- they are printed
  pub accepted_lines : Fair mode → Bytes b → let r = call_with mode newest b work out in text_of r.number r.second r.out
      ≡ lines_in mode (matrix_of b)
  unfolding accepts text_of
  accepted_lines fair bytes =
      ap (λ (r : Result). text_of r.number r.second r.out) (demand1_accepted mode newest b work out a) ∙ accepted_answer fair bytes
