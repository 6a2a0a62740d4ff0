-- The words that ask for something.
use Rattle.std.specs.Prelude.{ℕ, List, [], ◌∷◌}

-- `--all-het`
abbrev pub all_het_word : List ℕ
all_het_word = 45 ∷ 45 ∷ 97 ∷ 108 ∷ 108 ∷ 45 ∷ 104 ∷ 101 ∷ 116 ∷ []

-- `--margins`
abbrev pub margins_word : List ℕ
margins_word = 45 ∷ 45 ∷ 109 ∷ 97 ∷ 114 ∷ 103 ∷ 105 ∷ 110 ∷ 115 ∷ []
