use mathlib.Core.Path.{◌≡◌}
use lib.ListN.{length, get_or}
use Rattle.meaning.specs.Active.{read, at}
use Rattle.layout.specs.Matrices.{matrix_of}
use Rattle.layout.specs.Places.{first_at}
use Rattle.fold.specs.Turn.{starts_before}
use Rattle.fold.proofs.Masks.{Masks}
use Rattle.sums.specs.Sums.{pair_of}
use Rattle.cells.proofs.Pairs.{PairsTo}
use Rattle.cells.proofs.prepare.Given as goal

abbrev pub invariant-loop-i : goal.invariant-loop-i
invariant-loop-i l =
    (length l.w ≡ 12) × PairsTo l.w l.i (λ k. pair_of (at (read (matrix_of l.placed.reads) (get_or l.list k 0)) l.j)) 65535
    × Masks (starts_before (first_at l.placed.places.now) l.list l.j) l.turn l.seen l.head l.i
