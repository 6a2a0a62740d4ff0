use mathlib.Core.Path.{◌≡◌}
use lib.ListN.{length}
use Rattle.meaning.specs.Numbers.{run}
use Rattle.meaning.specs.Block.{cell_at}
use Rattle.meaning.specs.Call.{laid}
use Rattle.meaning.specs.Convert.{cells_bytes}
use Rattle.convert.proofs.put_cells.Given as goal

-- Of the cells passed the bytes are laid one after the other.
abbrev pub invariant-loop-i : goal.invariant-loop-i
invariant-loop-i l = (length l.out ≡ length l.initial.out) × (l.out ≡ laid l.at (cells_bytes (run 0 l.i (cell_at l.shape.size l.cells))) l.initial.out)
