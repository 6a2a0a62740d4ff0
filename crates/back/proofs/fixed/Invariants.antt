use mathlib.Core.Path.{◌≡◌}
use lib.ListN.{get_or, take}
use Rattle.meaning.specs.Numbers.{bit}
use Rattle.meaning.specs.Rule.{index_at}
use Rattle.meaning.specs.Answer.{division_of}
use Rattle.back.proofs.fixed.Given as goal

abbrev pub invariant-loop-i : goal.invariant-loop-i
invariant-loop-i l = (l.low ≡ index_at (take l.i l.list) (division_of l.sides)) × (l.head ≡ bit (division_of l.sides (get_or l.list 0 0)))
