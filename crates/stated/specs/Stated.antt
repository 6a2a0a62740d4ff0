-- What a builder's answer states, where its n and m are those of the reads, and what it has at a column.
use Rattle.std.specs.Prelude.{ℕ, ◌+◌, ◌*◌, ◌≤◌, ◌≡◌, Bool, true, false, cond, not, ◌&&◌, ◌||◌, List, length, take, drop, ltb, eqb}
use Rattle.meaning.specs.Numbers.{bit, any_to}
use Rattle.meaning.specs.Block.{Matrix}
use Rattle.meaning.specs.Division.{Side}
use Rattle.meaning.specs.Charge.{W}
use Rattle.meaning.specs.Letters.{general, reported}
use Rattle.meaning.specs.Judge.{stated_reads, stated_columns, stated_division, stated_letter}
use Rattle.tally.specs.Tally.{Tallied}
use Rattle.stated.specs.declared.side.SideAt.{SideAt}
use Rattle.stated.specs.declared.side.ColumnAt.{ColumnAt}

-- n and m, within their limits, are the answer's own, and its bytes are n sides and 2 × m letters behind the head
pub record Sized (a : List ℕ) (m n : ℕ) : Type 0 where
  pub reads : stated_reads a ≡ n
  pub columns : stated_columns a ≡ m
  pub whole : length a ≡ 17 + n + 2 * m
  pub few-columns : m ≤ 1024
  pub few-reads : n ≤ 1024

-- the tally of a matrix for the answer's sides
abbrev pub StatedTally : Matrix → List ℕ → List ℕ → Type 0
StatedTally M a tally = Tallied M (take (stated_reads a) (drop 17 a)) tally

-- a side's sums at column j, by the answer's sides, and its letter there
pub record StandsAt (M : Matrix) (a : List ℕ) (j : ℕ) (s : Side) (x : SideAt) : Type 0 where
  pub zero_is : x.w0 ≡ W M (stated_division a) j s false
  pub one_is : x.w1 ≡ W M (stated_division a) j s true
  pub letter_is : x.letter ≡ stated_letter a s j

pub record Stands (M : Matrix) (a : List ℕ) (j : ℕ) (c : ColumnAt) : Type 0 where
  pub first_stands : StandsAt M a j false c.first
  pub second_stands : StandsAt M a j true c.second

-- what is asked of one side: a `-` where the sums differ; the weight that disagrees with its letter, a `-` read as 0; a letter that is not the reported one
abbrev pub dash_of : SideAt → Bool
dash_of x = eqb x.letter 2 && not (eqb x.w0 x.w1)

abbrev pub against_of : SideAt → ℕ
against_of x = cond (eqb x.letter 1) x.w1 x.w0

abbrev pub other_of : SideAt → Bool
other_of x = not (eqb x.letter (cond (eqb x.w0 x.w1) 2 (bit (not (ltb x.w0 x.w1)))))

-- a test that passes on one of the two sides of a column
abbrev pub either_side : (ℕ → Side → Bool) → ℕ → Bool
either_side passes j = passes j false || passes j true

-- a letter that is not the one reported for the answer's own sides
abbrev pub other_letter_at : Matrix → List ℕ → ℕ → Side → Bool
other_letter_at M a j s = not (eqb (stated_letter a s j) (reported general (W M (stated_division a) j) s))

unfoldable pub other_letters : Matrix → List ℕ → Bool
other_letters M a = any_to M.columns (either_side (other_letter_at M a))
