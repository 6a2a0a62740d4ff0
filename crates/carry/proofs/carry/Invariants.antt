use lib.ListN.{length}
use mathlib.Core.Path.{◌≡◌}
use Rattle.carry.proofs.Laws.{Left}
use Rattle.carry.proofs.carry.Given as goal

abbrev pub invariant-loop-row : goal.invariant-loop-row
invariant-loop-row l = (l.row-iterator.size ≡ l.classes) × (length l.kept ≡ l.classes) × Left l.part l.classes l.row-iterator.rest.now l.kept
