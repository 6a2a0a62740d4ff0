use mathlib.Core.Path.{◌≡◌}
use lib.ListN.{length}
use Rattle.meaning.specs.Letters.{charge_in, mode_of}
use Rattle.meaning.specs.Table.{columns_to}
use Rattle.meaning.specs.Call.{over}
use Rattle.layout.specs.Matrices.{matrix_of}
use Rattle.table.proofs.fill_table.Given as goal

abbrev pub invariant-loop-j : goal.invariant-loop-j
invariant-loop-j l =
    (length l.taken ≡ length l.initial.taken) × (length l.work ≡ length l.initial.work) × (l.work ≡ over (columns_to (charge_in (mode_of l.heterozygous)) (matrix_of l.listed.reads) l.j) l.initial.work)
