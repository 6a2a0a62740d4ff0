-- The letters, flips and margins of a column.
use Rattle.std.specs.Prelude.{ℕ, ◌+◌, ◌*◌, ◌≤◌, true, false, ◌≡◌, List, [], ◌∷◌, get_or}
use Rattle.meaning.specs.Numbers.{bit, sum_to}
use Rattle.meaning.specs.Block.{Matrix}
use Rattle.meaning.specs.Active.{count, read, at}
use Rattle.meaning.specs.Division.{Division}
use Rattle.meaning.specs.Charge.{W}
use Rattle.meaning.specs.Letters.{Mode, reported, haplotypes, is_flip}
use Rattle.meaning.specs.Margins.{margin_of}
use Rattle.letters.specs.declared.Letters.{Letters}

-- the letters that are reported of column j, the flips against its letters, and the margins, for a division in a mode
pub record Lettered (mode : Mode) (M : Matrix) (d : Division) (j : ℕ) (r : Letters) : Type 0 where
  pub first_is : r.first ≡ reported mode (W M d j) false
  pub second_is : r.second ≡ reported mode (W M d j) true
  pub flips_are : r.flips ≡ sum_to (count M) (λ q. bit (is_flip (haplotypes mode M d (d q) j) (at (read M q) j)))
  pub flips-few : r.flips ≤ 1024
  pub first_margin_is : r.margins.first ≡ margin_of mode (W M d j) false
  pub second_margin_is : r.margins.second ≡ margin_of mode (W M d j) true

-- a part of a column's tallies, by side: that of letter 1, then that of letter 0
abbrev pub column_parts : (ℕ → ℕ) → List ℕ → ℕ → List (List ℕ)
column_parts f tally j =
    (f (get_or tally (4 * j + 1) 0) ∷ f (get_or tally (4 * j) 0) ∷ [])
    ∷ (f (get_or tally (4 * j + 3) 0) ∷ f (get_or tally (4 * j + 2) 0) ∷ []) ∷ []
