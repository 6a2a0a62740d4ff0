-- The letters of one column, and of all columns in turn, with the code's own terms.
use Prim.Native.Nat.{ℕ, ◌+◌, ◌-◌, ◌*◌, ◌≤◌, ◌<◌, zero-le}
use mathlib.Core.Path.{◌≡◌, refl, sym, ap, ap₂, ◌∙◌, subst}
use mathlib.Core.Bool.{true, false}
use mathlib.Core.List.{List}
use native.Mathlib.Omega.{arith}
use lib.ListN.{length, take, drop, set, length-drop}
use lib.Seq.{length-take-le}
use Rattle.meaning.specs.Numbers.{bit, sum_to}
use Rattle.meaning.specs.Block.{Matrix}
use Rattle.meaning.specs.Active.{count, read, at}
use Rattle.meaning.specs.Division.{Side, Division}
use Rattle.meaning.specs.Charge.{W}
use Rattle.meaning.specs.Letters.{Mode, reported, haplotypes, is_flip, flips}
use Rattle.meaning.specs.Answer.{division_of, letters_of}
use Rattle.sums.proofs.Laws.{leaf_more}
use Rattle.letters.specs.declared.Letters.{Letters}
use Rattle.tally.specs.Tally.{Tallied}
use Rattle.letters.specs.Lettered.{Lettered}
use Rattle.written.specs.Output.{division_in, flips_of, with_letters}
use Rattle.written.proofs.Pairs.{pairs_to, pairs_none, pairs_more}

-- the sides as a part of the output
module _ (n : ℕ) (out : List ℕ) where
  sides-count : 17 + n - 17 ≡ n
  sides-count = omega arith

  pub sides-length : 17 + n ≤ length out → length (take (17 + n - 17) (drop 17 out)) ≡ n
  sides-length h = length-take-le (17 + n - 17) (drop 17 out) (omega (arith, length-drop 17 out)) ∙ sides-count

  -- what the tally of these sides tells of a column
  pub sides_lettered : (mode : Mode) (M : Matrix) (tally : List ℕ) → Tallied M (take (17 + n - 17) (drop 17 out)) tally → (j : ℕ) → j < M.columns → (x : Letters)
      → ((M : Matrix) (sides : List ℕ) → Tallied M sides tally → j < M.columns → Lettered mode M (division_of sides) j x)
      → Lettered mode M (division_in n out) j x
  sides_lettered mode M tally t j l x h =
      subst (λ (k : ℕ). Lettered mode M (division_of (take k (drop 17 out))) j x) sides-count (h M (take (17 + n - 17) (drop 17 out)) t l)

-- what is reported of a side at a column, and the column's flips
abbrev pub letter_at : Mode → Matrix → Division → Side → ℕ → ℕ
letter_at mode M d s j = reported mode (W M d j) s

abbrev pub flips_at : Mode → Matrix → Division → ℕ → ℕ
flips_at mode M d j = sum_to (count M) (λ q. bit (is_flip (haplotypes mode M d (d q) j) (at (read M q) j)))

-- the letters of the first j columns are written, and their flips counted
pub record Written (mode : Mode) (M : Matrix) (n m : ℕ) (old out : List ℕ) (flipped j : ℕ) : Type 0 where
  pub letters : out ≡ pairs_to (17 + n) m (letter_at mode M (division_in n old) false) (letter_at mode M (division_in n old) true) j old
  pub flips_are : flipped ≡ sum_to j (flips_at mode M (division_in n old))
  pub flips-few : flipped ≤ 1024 * j

module _ (mode : Mode) (M : Matrix) (n m : ℕ) (old : List ℕ) (fits : 17 + n + 2 * m ≤ length old) where
  abbrev d : Division
  d = division_in n old

  pub written_none : Written mode M n m old old 0 0
  unfolding sum_to
  written_none =
      record {
        letters = pairs_none (17 + n) m (letter_at mode M d false) (letter_at mode M d true) old fits;
        flips_are = refl;
        flips-few = zero-le;
      }

  module _ (out : List ℕ) (flipped j : ℕ) (w : Written mode M n m old out flipped j) where
    pub written_more : j < m → (x : Letters) → Lettered mode M d j x
        → Written mode M n m old (set (set out (17 + n + j) x.first) (17 + n + m + j) x.second) (flipped + x.flips) (j + 1)
    written_more l x z =
        let new : set (set out (17 + n + j) x.first) (17 + n + m + j) x.second ≡ pairs_to (17 + n) m (letter_at mode M d false) (letter_at mode M d true) (j + 1) old =
        ap (λ (o : List ℕ). set (set o (17 + n + j) x.first) (17 + n + m + j) x.second) w.letters
        ∙ ap₂ (λ (a c : ℕ). set (set (pairs_to (17 + n) m (letter_at mode M d false) (letter_at mode M d true) j old) (17 + n + j) a) (17 + n + m + j) c) z.first_is z.second_is
        ∙ pairs_more (17 + n) m (letter_at mode M d false) (letter_at mode M d true) old fits j l in
        record {
          letters = new;
          flips_are = ap₂ (λ (a c : ℕ). a + c) w.flips_are z.flips_are ∙ sym (leaf_more j (flips_at mode M d));
          flips-few = omega (arith, w.flips-few, z.flips-few);
        }

    -- all columns done
    pub written_all : j ≡ M.columns
        → (flipped ≡ flips_of mode M d) × (out ≡ with_letters mode M d n m old)
    unfolding flips letters_of
    written_all k = (
      w.flips_are ∙ ap (λ (i : ℕ). sum_to i (flips_at mode M d)) k,
      w.letters ∙ ap (λ (i : ℕ). pairs_to (17 + n) m (letter_at mode M d false) (letter_at mode M d true) i old) k,
    )
