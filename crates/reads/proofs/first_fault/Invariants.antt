use mathlib.Core.Bool.{false}
use mathlib.Core.Path.{◌≡◌}
use Prim.Native.Nat.{◌-◌, ◌≤◌}
use lib.ListN.{length}
use Rattle.meaning.specs.Numbers.{any_to}
use Rattle.reads.specs.Cells.{faulty_cell}
use Rattle.reads.proofs.Walk.{Left}
use Rattle.reads.proofs.first_fault.Given as goal

-- `first_fault` meets its contract. Of the cells passed none is faulty; of the reads passed, what is left gives what all give.
abbrev pub invariant-loop-i : goal.invariant-loop-i
invariant-loop-i l = any_to l.i (faulty_cell l.shape.size l.cells) ≡ false

abbrev pub invariant-reads : goal.invariant-reads
invariant-reads l = (l.at ≤ length l.reads) × (l.r ≤ l.shape.n) × Left l.shape l.reads l.at l.r

abbrev pub decreases-reads : goal.decreases-reads
decreases-reads l = l.shape.n - l.r
