-- What `judge` prints, byte by byte, of a judging's two numbers: a verdict's line and its words, or a refusal's line.
use Rattle.std.specs.Prelude.{ℕ, cond, List, [], ◌∷◌, ◌++◌, ltb}
use Rattle.lines.specs.Line.{numbers_line}
use Rattle.words.specs.Words.{verdict_words}
use Rattle.text.specs.Text.{refusal_text}

-- `verdict `
abbrev pub verdict_word : List ℕ
verdict_word = 118 ∷ 101 ∷ 114 ∷ 100 ∷ 105 ∷ 99 ∷ 116 ∷ 32 ∷ []

-- 50 and above are verdicts, below are refusals
unfoldable pub judged_text : ℕ → ℕ → List ℕ
judged_text number second = cond (ltb number 50) (refusal_text number second) (numbers_line verdict_word number second ++ verdict_words number)
