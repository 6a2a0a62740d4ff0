-- What `phase` prints in four cases, with the margins in two, and `judge` in three, by computation.
use Rattle.std.specs.Prelude.{ℕ, ◌≡◌, refl, List, [], ◌∷◌, ◌++◌}
use Rattle.meaning.specs.Numbers.{big_endian}
use Rattle.lines.specs.Line.{digits, run_text}
use Rattle.words.specs.Words.{verdict_words}
use Rattle.text.specs.Text.{answer_text, refusal_text, text_of, margins_text, margin_text_of}
use Rattle.text.specs.Verdict.{judged_text}

-- P1's answer block: cost 1, 1 flip, 4 sides, 2 columns
abbrev pub answer_p1 : List ℕ
answer_p1 = 2 ∷ 0 ∷ 0 ∷ 0 ∷ 20 ∷ 0 ∷ 0 ∷ 0 ∷ 1 ∷ 0 ∷ 0 ∷ 0 ∷ 1 ∷ 0 ∷ 4 ∷ 0 ∷ 2 ∷ 1 ∷ 0 ∷ 0 ∷ 0 ∷ 1 ∷ 0 ∷ 0 ∷ 2 ∷ []

-- P3's: cost 0, no flips, no reads, 1 column
abbrev pub answer_p3 : List ℕ
answer_p3 = 2 ∷ 0 ∷ 0 ∷ 0 ∷ 14 ∷ 0 ∷ 0 ∷ 0 ∷ 0 ∷ 0 ∷ 0 ∷ 0 ∷ 0 ∷ 0 ∷ 0 ∷ 0 ∷ 1 ∷ 2 ∷ 2 ∷ []

-- `cost 1`, `flips 1`, `sides 1000`, `hap1 10`, `hap2 0-`
abbrev pub text_p1 : List ℕ
text_p1 =
    99 ∷ 111 ∷ 115 ∷ 116 ∷ 32 ∷ 49 ∷ 10
    ∷ 102 ∷ 108 ∷ 105 ∷ 112 ∷ 115 ∷ 32 ∷ 49 ∷ 10
    ∷ 115 ∷ 105 ∷ 100 ∷ 101 ∷ 115 ∷ 32 ∷ 49 ∷ 48 ∷ 48 ∷ 48 ∷ 10
    ∷ 104 ∷ 97 ∷ 112 ∷ 49 ∷ 32 ∷ 49 ∷ 48 ∷ 10
    ∷ 104 ∷ 97 ∷ 112 ∷ 50 ∷ 32 ∷ 48 ∷ 45 ∷ 10
    ∷ []

-- `cost 0`, `flips 0`, `sides none`, `hap1 -`, `hap2 -`
abbrev pub text_p3 : List ℕ
text_p3 =
    99 ∷ 111 ∷ 115 ∷ 116 ∷ 32 ∷ 48 ∷ 10
    ∷ 102 ∷ 108 ∷ 105 ∷ 112 ∷ 115 ∷ 32 ∷ 48 ∷ 10
    ∷ 115 ∷ 105 ∷ 100 ∷ 101 ∷ 115 ∷ 32 ∷ 110 ∷ 111 ∷ 110 ∷ 101 ∷ 10
    ∷ 104 ∷ 97 ∷ 112 ∷ 49 ∷ 32 ∷ 45 ∷ 10
    ∷ 104 ∷ 97 ∷ 112 ∷ 50 ∷ 32 ∷ 45 ∷ 10
    ∷ []

pub p1-printed : text_of 0 1 answer_p1 ≡ text_p1
unfolding text_of answer_text digits big_endian
p1-printed = refl

pub p3-printed : text_of 0 0 answer_p3 ≡ text_p3
unfolding text_of answer_text digits big_endian
p3-printed = refl

-- `refused 9 at 3`
abbrev pub text_column : List ℕ
text_column = 114 ∷ 101 ∷ 102 ∷ 117 ∷ 115 ∷ 101 ∷ 100 ∷ 32 ∷ 57 ∷ 32 ∷ 97 ∷ 116 ∷ 32 ∷ 51 ∷ 10 ∷ []

pub column-printed : text_of 9 3 [] ≡ text_column
unfolding text_of refusal_text digits
column-printed = refl

-- `refused 12 at 65536`
pub input_printed : text_of 12 65536 [] ≡ 114 ∷ 101 ∷ 102 ∷ 117 ∷ 115 ∷ 101 ∷ 100 ∷ 32 ∷ 49 ∷ 50 ∷ 32 ∷ 97 ∷ 116 ∷ 32 ∷ 54 ∷ 53 ∷ 53 ∷ 51 ∷ 54 ∷ 10 ∷ []
unfolding text_of refusal_text digits
input_printed = refl

-- P1's margins, and one number more of the run: behind the five lines `margin1 9 3`, `margin2 5 0`
pub p1_margins_printed : margin_text_of 0 1 answer_p1 (9 ∷ 3 ∷ 5 ∷ 0 ∷ 7 ∷ [])
    ≡ text_p1
    ++ (109 ∷ 97 ∷ 114 ∷ 103 ∷ 105 ∷ 110 ∷ 49 ∷ 32 ∷ 57 ∷ 32 ∷ 51 ∷ 10
    ∷ 109 ∷ 97 ∷ 114 ∷ 103 ∷ 105 ∷ 110 ∷ 50 ∷ 32 ∷ 53 ∷ 32 ∷ 48 ∷ 10
    ∷ [])
unfolding margin_text_of margins_text answer_text run_text digits big_endian
p1_margins_printed = refl

-- `refused 13 at 4`
pub run-printed : margin_text_of 13 4 [] (9 ∷ 3 ∷ 5 ∷ []) ≡ 114 ∷ 101 ∷ 102 ∷ 117 ∷ 115 ∷ 101 ∷ 100 ∷ 32 ∷ 49 ∷ 51 ∷ 32 ∷ 97 ∷ 116 ∷ 32 ∷ 52 ∷ 10 ∷ []
unfolding margin_text_of refusal_text digits
run-printed = refl

-- `verdict 54 at 0`, `stated cost not the weight of disagreeing entries`
pub cost_judged : judged_text 54 0
    ≡ 118 ∷ 101 ∷ 114 ∷ 100 ∷ 105 ∷ 99 ∷ 116 ∷ 32 ∷ 53 ∷ 52 ∷ 32 ∷ 97 ∷ 116 ∷ 32 ∷ 48 ∷ 10
    ∷ 115 ∷ 116 ∷ 97 ∷ 116 ∷ 101 ∷ 100 ∷ 32
    ∷ 99 ∷ 111 ∷ 115 ∷ 116 ∷ 32
    ∷ 110 ∷ 111 ∷ 116 ∷ 32
    ∷ 116 ∷ 104 ∷ 101 ∷ 32
    ∷ 119 ∷ 101 ∷ 105 ∷ 103 ∷ 104 ∷ 116 ∷ 32
    ∷ 111 ∷ 102 ∷ 32
    ∷ 100 ∷ 105 ∷ 115 ∷ 97 ∷ 103 ∷ 114 ∷ 101 ∷ 101 ∷ 105 ∷ 110 ∷ 103 ∷ 32
    ∷ 101 ∷ 110 ∷ 116 ∷ 114 ∷ 105 ∷ 101 ∷ 115 ∷ 10
    ∷ []
unfolding judged_text verdict_words digits
cost_judged = refl

-- `verdict 55 at 3`, `not least`
pub least_judged : judged_text 55 3
    ≡ 118 ∷ 101 ∷ 114 ∷ 100 ∷ 105 ∷ 99 ∷ 116 ∷ 32 ∷ 53 ∷ 53 ∷ 32 ∷ 97 ∷ 116 ∷ 32 ∷ 51 ∷ 10
    ∷ 110 ∷ 111 ∷ 116 ∷ 32 ∷ 108 ∷ 101 ∷ 97 ∷ 115 ∷ 116 ∷ 10
    ∷ []
unfolding judged_text verdict_words digits
least_judged = refl

-- a refusal's line is that of `phase`
pub column_judged : judged_text 9 3 ≡ text_column
unfolding judged_text refusal_text digits
column_judged = refl
