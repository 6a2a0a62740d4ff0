-- What is printed, case by case. Assumes nothing.
use Prim.Native.Nat.{ℕ, ◌≤◌, ◌<◌}
use mathlib.Core.Path.{◌≡◌}
use mathlib.Core.Bool.{true, false}
use mathlib.Core.List.{List}
use borrow.Author.Tests.{lt-ltb, le-ltb}
use lib.ListN.{length}
use lib.Dec.{ltb}
use Rattle.text.specs.Text.{refusal_text}
use Rattle.text.specs.Verdict.{judged_text}
use Rattle.ruling.specs.Printed.{lent, printed_verdict}

module _ (block answer : List ℕ) where
  pub long-block : 65536 < length block → refusal_text 12 65536 ≡ printed_verdict block answer
  unfolding printed_verdict
  long-block l = rw (lt-ltb 65536 (length block) l)

  -- the code's second test, as it stands
  pub long-answer : length block ≤ 65536 → ltb 65536 (length answer) ≡ true → refusal_text 12 65536 ≡ printed_verdict block answer
  unfolding printed_verdict
  long-answer h t = rw (le-ltb 65536 (length block) h, t)

  pub judged : {n s : ℕ} → length block ≤ 65536 → ltb 65536 (length answer) ≡ false → n ≡ (lent block answer).number → s ≡ (lent block answer).second
      → judged_text n s ≡ printed_verdict block answer
  unfolding printed_verdict
  judged h t en es = rw (le-ltb 65536 (length block) h, t, en, es)
