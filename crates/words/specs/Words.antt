-- A verdict in words, byte by byte.
use Rattle.std.specs.Prelude.{ℕ, cond, List, [], ◌∷◌, eqb}
use Rattle.lines.specs.Line.{line}

-- 50: `malformed`
abbrev pub malformed_words : List ℕ
malformed_words = 109 ∷ 97 ∷ 108 ∷ 102 ∷ 111 ∷ 114 ∷ 109 ∷ 101 ∷ 100 ∷ []

-- 51: `other n or m`
abbrev pub other_counts_words : List ℕ
other_counts_words = 111 ∷ 116 ∷ 104 ∷ 101 ∷ 114 ∷ 32 ∷ 110 ∷ 32 ∷ 111 ∷ 114 ∷ 32 ∷ 109 ∷ []

-- 52: `a side above 1 or a letter above 2`
abbrev pub unknown_mark_words : List ℕ
unknown_mark_words =
    97 ∷ 32
    ∷ 115 ∷ 105 ∷ 100 ∷ 101 ∷ 32
    ∷ 97 ∷ 98 ∷ 111 ∷ 118 ∷ 101 ∷ 32
    ∷ 49 ∷ 32
    ∷ 111 ∷ 114 ∷ 32
    ∷ 97 ∷ 32
    ∷ 108 ∷ 101 ∷ 116 ∷ 116 ∷ 101 ∷ 114 ∷ 32
    ∷ 97 ∷ 98 ∷ 111 ∷ 118 ∷ 101 ∷ 32
    ∷ 50
    ∷ []

-- 53: `a - where that side's sums differ`
abbrev pub false_dash_words : List ℕ
false_dash_words =
    97 ∷ 32
    ∷ 45 ∷ 32
    ∷ 119 ∷ 104 ∷ 101 ∷ 114 ∷ 101 ∷ 32
    ∷ 116 ∷ 104 ∷ 97 ∷ 116 ∷ 32
    ∷ 115 ∷ 105 ∷ 100 ∷ 101 ∷ 39 ∷ 115 ∷ 32
    ∷ 115 ∷ 117 ∷ 109 ∷ 115 ∷ 32
    ∷ 100 ∷ 105 ∷ 102 ∷ 102 ∷ 101 ∷ 114
    ∷ []

-- 54: `stated cost not the weight of disagreeing entries`
abbrev pub wrong_cost_words : List ℕ
wrong_cost_words =
    115 ∷ 116 ∷ 97 ∷ 116 ∷ 101 ∷ 100 ∷ 32
    ∷ 99 ∷ 111 ∷ 115 ∷ 116 ∷ 32
    ∷ 110 ∷ 111 ∷ 116 ∷ 32
    ∷ 116 ∷ 104 ∷ 101 ∷ 32
    ∷ 119 ∷ 101 ∷ 105 ∷ 103 ∷ 104 ∷ 116 ∷ 32
    ∷ 111 ∷ 102 ∷ 32
    ∷ 100 ∷ 105 ∷ 115 ∷ 97 ∷ 103 ∷ 114 ∷ 101 ∷ 101 ∷ 105 ∷ 110 ∷ 103 ∷ 32
    ∷ 101 ∷ 110 ∷ 116 ∷ 114 ∷ 105 ∷ 101 ∷ 115
    ∷ []

-- 55: `not least`
abbrev pub not_least_words : List ℕ
not_least_words = 110 ∷ 111 ∷ 116 ∷ 32 ∷ 108 ∷ 101 ∷ 97 ∷ 115 ∷ 116 ∷ []

-- 56: `least but other sides or letters than ours`
abbrev pub other_answer_words : List ℕ
other_answer_words =
    108 ∷ 101 ∷ 97 ∷ 115 ∷ 116 ∷ 32
    ∷ 98 ∷ 117 ∷ 116 ∷ 32
    ∷ 111 ∷ 116 ∷ 104 ∷ 101 ∷ 114 ∷ 32
    ∷ 115 ∷ 105 ∷ 100 ∷ 101 ∷ 115 ∷ 32
    ∷ 111 ∷ 114 ∷ 32
    ∷ 108 ∷ 101 ∷ 116 ∷ 116 ∷ 101 ∷ 114 ∷ 115 ∷ 32
    ∷ 116 ∷ 104 ∷ 97 ∷ 110 ∷ 32
    ∷ 111 ∷ 117 ∷ 114 ∷ 115
    ∷ []

-- 57: `ours`
abbrev pub ours_words : List ℕ
ours_words = 111 ∷ 117 ∷ 114 ∷ 115 ∷ []

-- the line that says a verdict in words
unfoldable pub verdict_words : ℕ → List ℕ
verdict_words number =
    line
    (cond (eqb number 50) malformed_words
    (cond (eqb number 51) other_counts_words
    (cond (eqb number 52) unknown_mark_words
    (cond (eqb number 53) false_dash_words
    (cond (eqb number 54) wrong_cost_words
    (cond (eqb number 55) not_least_words
    (cond (eqb number 56) other_answer_words
    ours_words)))))))
    []
