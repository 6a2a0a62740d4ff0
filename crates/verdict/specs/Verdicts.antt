-- A verdict, and the result of a judging.
use Rattle.std.specs.Prelude.{ℕ, List, Result, Ok, Err}
use Rattle.meaning.specs.Refusals.{Numbers}
use Rattle.meaning.specs.Judge.{Judged}
use Rattle.refusal.specs.declared.Refusal.{Refusal}
use Rattle.refusal.specs.Numbers.{refusal_number, refusal_second}
use Rattle.verdict.specs.declared.Verdict.{Verdict}
use Rattle.verdict.specs.declared.Verdict.TheVariants.{Malformed, OtherCounts, UnknownMark, FalseDash, WrongCost, NotLeast, OtherAnswer, Ours}

abbrev pub verdict_number : Verdict → ℕ
verdict_number Malformed = 50
verdict_number OtherCounts = 51
verdict_number UnknownMark = 52
verdict_number FalseDash = 53
verdict_number WrongCost = 54
verdict_number (NotLeast least) = 55
verdict_number OtherAnswer = 56
verdict_number Ours = 57

abbrev pub verdict_second : Verdict → ℕ
verdict_second Malformed = 0
verdict_second OtherCounts = 0
verdict_second UnknownMark = 0
verdict_second FalseDash = 0
verdict_second WrongCost = 0
verdict_second (NotLeast least) = least
verdict_second OtherAnswer = 0
verdict_second Ours = 0

abbrev pub verdict_numbers : Verdict → Numbers
verdict_numbers v = record { number = verdict_number v; second = verdict_second v }

-- a verdict, or a refusal, with what the work room holds afterwards
abbrev pub judged_of : Result Verdict Refusal → List ℕ → Judged
judged_of (Ok v) work = record { number = verdict_number v; second = verdict_second v; work = work }
judged_of (Err e) work = record { number = refusal_number e; second = refusal_second e; work = work }
