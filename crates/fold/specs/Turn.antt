-- An index of a column folded onto the reads that it shares with the column before.
use Rattle.std.specs.Prelude.{ℕ, zero, suc, ◌-◌, ◌/◌, ◌%◌, ◌^◌, Bool, false, cond, List, get_or, eqb, ltb}
use Rattle.std.specs.Int.Bits.{bit_xor}
use Rattle.meaning.specs.Numbers.{bit, sum_to}
use Rattle.meaning.specs.Active.{used}
use Rattle.meaning.specs.Division.{Side}

-- the side of the i-th active read in what entry k stands for: the first on side 0, each other on the side of its digit
abbrev pub side_at : ℕ → ℕ → Side
side_at k zero = false
side_at k (suc i) = eqb (k / 2 ^ i % 2) 1

-- each of the first i reads that is on side 1 turns the folded index by its mask
unfoldable pub fold_to : List ℕ → ℕ → ℕ → ℕ
fold_to turn k zero = 0
fold_to turn k (suc i) = cond (side_at k i) (bit_xor (fold_to turn k i) (get_or turn i 0)) (fold_to turn k i)

-- whether the i-th read of the list starts before column j: of the reads active at column j these are the shared ones
abbrev pub starts_before : (ℕ → ℕ) → List ℕ → ℕ → ℕ → Bool
starts_before first list j i = ltb (first (get_or list i 0)) j

-- how many of the first i reads are shared
abbrev pub shared_to : (ℕ → Bool) → ℕ → ℕ
shared_to shares i = sum_to i (λ q. bit (shares q))

-- the digit of a shared read with so many of them before it: none for the first, whose side all others are told from
abbrev pub digit_of : ℕ → ℕ
digit_of seen = cond (eqb seen 0) 0 (2 ^ (seen - 1))

-- the mask of a shared read of s, so many of them before it: all digits if it is the first (the others are told from it), its own digit else
abbrev pub mask_of : ℕ → ℕ → ℕ
mask_of seen s = cond (eqb seen 0) (used s - 1) (2 ^ (seen - 1))

-- the mask of the i-th of p reads: none if it is not shared
unfoldable pub turn_at : (ℕ → Bool) → ℕ → ℕ → ℕ
turn_at shares p i = cond (shares i) (mask_of (shared_to shares i) (shared_to shares p)) 0
