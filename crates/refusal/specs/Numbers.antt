-- The two numbers of each refusal, as documents 01 and 02 give them; and those of what is an answer or a refusal.
use Rattle.std.specs.Prelude.{ℕ, Result, Ok, Err}
use Rattle.meaning.specs.Refusals.{Numbers, passed}
use Rattle.refusal.specs.declared.Refusal.{Refusal}
use Rattle.refusal.specs.declared.Refusal.TheVariants.{Short, Version, Size, Counts, Length, Empty, Place, Cell, LeftOver, Crowded, Work, Output, Margins, Room}

abbrev pub refusal_number : Refusal → ℕ
refusal_number Short = 1
refusal_number Version = 2
refusal_number Size = 3
refusal_number Counts = 4
refusal_number (Length r) = 5
refusal_number (Empty r) = 38
refusal_number (Place r) = 6
refusal_number (Cell r) = 7
refusal_number LeftOver = 8
refusal_number (Crowded j) = 9
refusal_number (Work need) = 10
refusal_number (Output need) = 11
refusal_number (Margins need) = 13
refusal_number (Room need) = 39

abbrev pub refusal_second : Refusal → ℕ
refusal_second Short = 0
refusal_second Version = 0
refusal_second Size = 0
refusal_second Counts = 0
refusal_second (Length r) = r
refusal_second (Empty r) = r
refusal_second (Place r) = r
refusal_second (Cell r) = r
refusal_second LeftOver = 0
refusal_second (Crowded j) = j
refusal_second (Work need) = need
refusal_second (Output need) = need
refusal_second (Margins need) = need
refusal_second (Room need) = need

abbrev pub refusal_numbers : Refusal → Numbers
refusal_numbers e = record { number = refusal_number e; second = refusal_second e }

-- of a check: its refusal's numbers, or none applies
abbrev pub checked_numbers : {A : Type 0} → Result A Refusal → Numbers
checked_numbers (Ok a) = passed
checked_numbers (Err e) = refusal_numbers e

-- of a call: 0 with the cost, or its refusal's numbers
abbrev pub call_numbers : Result ℕ Refusal → Numbers
call_numbers (Ok cost) = record { number = 0; second = cost }
call_numbers (Err e) = refusal_numbers e
