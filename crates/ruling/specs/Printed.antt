-- What `judge` prints for what the two files hold.
use Rattle.std.specs.Prelude.{ℕ, cond, ◌||◌, List, length, replicate, ltb}
use Rattle.meaning.specs.Judge.{Judged, judging}
use Rattle.text.specs.Text.{refusal_text}
use Rattle.text.specs.Verdict.{judged_text}

-- 1,441,792 work entries are lent
abbrev pub lent : List ℕ → List ℕ → Judged
lent block answer = judging block answer (replicate 1441792 0)

-- 12, before all other checks: a file holds more than 65,536 bytes
unfoldable pub printed_verdict : List ℕ → List ℕ → List ℕ
printed_verdict block answer =
    cond (ltb 65536 (length block) || ltb 65536 (length answer)) (refusal_text 12 65536) (judged_text (lent block answer).number (lent block answer).second)
