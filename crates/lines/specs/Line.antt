-- The characters of a number, of sides and letters, and of a line of them.
use Rattle.std.specs.Prelude.{ℕ, zero, suc, ◌+◌, ◌/◌, ◌%◌, cond, List, [], ◌∷◌, ◌++◌, map, length, ltb, eqb}

-- a number in decimal, without leading zeros; the fuel bounds its digits
unfoldable pub digits : ℕ → ℕ → List ℕ
digits zero x = []
digits (suc f) x = cond (ltb x 10) ((48 + x) ∷ []) (digits f (x / 10) ++ ((48 + x % 10) ∷ []))

-- 32 bits have at most ten digits
abbrev pub decimal : ℕ → List ℕ
decimal x = digits 10 x

-- the character of a side or a letter; 2 is no letter, printed `-`
abbrev pub mark : ℕ → ℕ
mark x = cond (eqb x 0) 48 (cond (eqb x 1) 49 45)

-- `sides `
abbrev pub sides_word : List ℕ
sides_word = 115 ∷ 105 ∷ 100 ∷ 101 ∷ 115 ∷ 32 ∷ []

-- `hap1 `
abbrev pub hap1_word : List ℕ
hap1_word = 104 ∷ 97 ∷ 112 ∷ 49 ∷ 32 ∷ []

-- `hap2 `
abbrev pub hap2_word : List ℕ
hap2_word = 104 ∷ 97 ∷ 112 ∷ 50 ∷ 32 ∷ []

-- `none`
abbrev pub none_word : List ℕ
none_word = 110 ∷ 111 ∷ 110 ∷ 101 ∷ []

-- ` at `
abbrev pub at_word : List ℕ
at_word = 32 ∷ 97 ∷ 116 ∷ 32 ∷ []

-- `margin1`
abbrev pub margin1_word : List ℕ
margin1_word = 109 ∷ 97 ∷ 114 ∷ 103 ∷ 105 ∷ 110 ∷ 49 ∷ []

-- `margin2`
abbrev pub margin2_word : List ℕ
margin2_word = 109 ∷ 97 ∷ 114 ∷ 103 ∷ 105 ∷ 110 ∷ 50 ∷ []

-- a word, a number or a run of characters, and a newline
abbrev pub line : List ℕ → List ℕ → List ℕ
line word rest = word ++ (rest ++ (10 ∷ []))

-- the sides of n reads, or `none`
abbrev pub sides_text : List ℕ → List ℕ
sides_text sides = cond (eqb (length sides) 0) none_word (map mark sides)

-- a word, the number, then the second number
abbrev pub numbers_line : List ℕ → ℕ → ℕ → List ℕ
numbers_line word number second = line word (decimal number ++ (at_word ++ decimal second))

-- a run of numbers, a blank before each
unfoldable pub run_text : List ℕ → List ℕ
run_text [] = []
run_text (x ∷ rest) = 32 ∷ (decimal x ++ run_text rest)
