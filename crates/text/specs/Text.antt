-- What `phase` prints, byte by byte, of a call's two numbers and its answer block, and of the margins where they are asked for.
use Rattle.std.specs.Prelude.{ℕ, ◌+◌, cond, List, [], ◌∷◌, ◌++◌, map, take, drop, eqb}
use Rattle.meaning.specs.Numbers.{word, long}
use Rattle.lines.specs.Line.{decimal, mark, line, sides_word, hap1_word, hap2_word, sides_text, margin1_word, margin2_word, numbers_line, run_text}

-- `cost `
abbrev pub cost_word : List ℕ
cost_word = 99 ∷ 111 ∷ 115 ∷ 116 ∷ 32 ∷ []

-- `flips `
abbrev pub flips_word : List ℕ
flips_word = 102 ∷ 108 ∷ 105 ∷ 112 ∷ 115 ∷ 32 ∷ []

-- `refused `
abbrev pub refused_word : List ℕ
refused_word = 114 ∷ 101 ∷ 102 ∷ 117 ∷ 115 ∷ 101 ∷ 100 ∷ 32 ∷ []

-- five lines of an answer block: cost, flips, sides, both haplotypes
unfoldable pub answer_text : List ℕ → List ℕ
answer_text answer =
    let n = word answer 13 in
    let m = word answer 15 in
    line cost_word (decimal (long answer 5))
    ++ (line flips_word (decimal (long answer 9))
    ++ (line sides_word (sides_text (take n (drop 17 answer)))
    ++ (line hap1_word (map mark (take m (drop (17 + n) answer)))
    ++ line hap2_word (map mark (take m (drop (17 + n + m) answer))))))

-- one line of a refusal
unfoldable pub refusal_text : ℕ → ℕ → List ℕ
refusal_text number second = numbers_line refused_word number second

unfoldable pub text_of : ℕ → ℕ → List ℕ → List ℕ
text_of number second answer = cond (eqb number 0) (answer_text answer) (refusal_text number second)

-- seven lines: those of the answer block, and the margins of its m columns, haplotype 1's first
unfoldable pub margins_text : List ℕ → List ℕ → List ℕ
margins_text answer margins =
    let m = word answer 15 in
    answer_text answer
    ++ (line margin1_word (run_text (take m margins))
    ++ line margin2_word (run_text (take m (drop m margins))))

unfoldable pub margin_text_of : ℕ → ℕ → List ℕ → List ℕ → List ℕ
margin_text_of number second answer margins = cond (eqb number 0) (margins_text answer margins) (refusal_text number second)
