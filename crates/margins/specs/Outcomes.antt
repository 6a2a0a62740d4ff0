-- What the solver that gives the margins too finds, the cost or a refusal, as the result of a call with margins.
use Rattle.std.specs.Prelude.{ℕ, List, Result}
use Rattle.meaning.specs.Margins.{MarginResult}
use Rattle.refusal.specs.declared.Refusal.{Refusal}
use Rattle.refusal.specs.Numbers.{call_numbers}

-- with what the three rooms hold afterwards
abbrev pub result_of : Result ℕ Refusal → List ℕ → List ℕ → List ℕ → MarginResult
result_of o work out margins = record { number = (call_numbers o).number; second = (call_numbers o).second; work = work; out = out; margins = margins }
