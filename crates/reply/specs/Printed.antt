-- What `phase` prints for what it reads from standard input.
use Rattle.std.specs.Prelude.{ℕ, cond, List, length, replicate, ltb}
use Rattle.meaning.specs.Block.{latest}
use Rattle.meaning.specs.Letters.{Mode}
use Rattle.meaning.specs.Call.{Result, call_with}
use Rattle.meaning.specs.Margins.{MarginResult, margin_call}
use Rattle.text.specs.Text.{refusal_text, text_of, margin_text_of}

-- 16,384 work entries and 4,096 bytes of output are lent, which is ample: the largest answer block has 3,089
abbrev pub lent : Mode → List ℕ → Result
lent mode input = call_with mode latest input (replicate 16384 0) (replicate 4096 0)

-- in a mode: general, or with `--all-het` the all-heterozygous one. 12, before all other checks: standard input holds more than
-- 65,536 bytes
unfoldable pub printed : Mode → List ℕ → List ℕ
printed mode input =
    cond (ltb 65536 (length input)) (refusal_text 12 65536) (text_of (lent mode input).number (lent mode input).second (lent mode input).out)

-- with `--margins`: 2,048 numbers are lent too, two for each of the 1,024 columns that a block has at most
abbrev pub lent_margins : List ℕ → MarginResult
lent_margins input = margin_call input (replicate 16384 0) (replicate 4096 0) (replicate 2048 0)

unfoldable pub printed_margins : List ℕ → List ℕ
printed_margins input =
    cond (ltb 65536 (length input)) (refusal_text 12 65536)
    (margin_text_of (lent_margins input).number (lent_margins input).second (lent_margins input).out (lent_margins input).margins)
