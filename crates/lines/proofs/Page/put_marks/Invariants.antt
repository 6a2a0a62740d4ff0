use Rattle.std.proofs.Common.{map, take}
use Rattle.lines.specs.Line.{mark}
use Rattle.lines.specs.Page.{Puts}
use Rattle.lines.proofs.Page.put_marks.Given as goal

-- the marks so far are put
abbrev pub invariant-loop-m : goal.invariant-loop-m
invariant-loop-m l = Puts l.initial.self (map mark (take l.m-index l.marks)) l.self
