-- Sides as bytes, and how the entries of a column decide them.
use Rattle.std.specs.Prelude.{ℕ, ◌+◌, ◌-◌, ◌*◌, ◌/◌, ◌^◌, not, List, length, drop, leb}
use Rattle.meaning.specs.Division.{Side, Division, first_over}
use Rattle.meaning.specs.Answer.{division_of}
use Rattle.meaning.specs.Rule.{entry_for, least_at}

-- the least entry of those whose first i digits give this number
abbrev pub class_least : List ℕ → ℕ → ℕ → ℕ
class_least col i f = least_at (2 ^ i) (length col / 2 ^ i) col f

-- the side of the read after i fixed ones, whose index is low, the first of them on side head (0 or 1): its digit is its side,
-- exchanged where head is 1; side 0, unless the least entry with side 1 is less
abbrev pub next_side : List ℕ → ℕ → ℕ → ℕ → Side
next_side col low head i = not (leb (class_least col i (low + head * 2 ^ (i - 1))) (class_least col i (low + (1 - head) * 2 ^ (i - 1))))

-- the sides of a column's reads, a list of them, after those that close, all but the first s, got the first sides in closing order that have the least entry
abbrev pub settled : List ℕ → List ℕ → ℕ → List ℕ → Division
settled col list s sides = first_over (drop s list) (entry_for list col) (division_of sides)
