-- What the solver finds, the cost or a refusal, as the result of a call.
use Rattle.std.specs.Prelude.{ℕ, List, Result as Answer}
use Rattle.meaning.specs.Call.{Result}
use Rattle.refusal.specs.declared.Refusal.{Refusal}
use Rattle.refusal.specs.Numbers.{call_numbers}

-- with what both rooms hold afterwards
abbrev pub result_of : Answer ℕ Refusal → List ℕ → List ℕ → Result
result_of o work out = record { number = (call_numbers o).number; second = (call_numbers o).second; work = work; out = out }
