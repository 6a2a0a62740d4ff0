use Rattle.std.proofs.Common.{take, ◌+◌, ◌*◌, ◌≤◌}
use Rattle.lines.specs.Line.{run_text}
use Rattle.lines.specs.Page.{Puts}
use Rattle.lines.proofs.Page.put_run.Given as goal

-- the numbers so far are put
abbrev pub invariant-loop-x : goal.invariant-loop-x
invariant-loop-x l = (l.self.at ≤ l.initial.self.at + 11 * l.x-index) × Puts l.initial.self (run_text (take l.x-index l.numbers)) l.self
