use mathlib.Core.Path.{◌≡◌}
use Prim.Native.Nat.{◌+◌, ◌*◌, ◌≤◌}
use lib.ListN.{length}
use Rattle.meaning.specs.Call.{laid}
use Rattle.layout.specs.Places.{read_start}
use Rattle.layout.specs.Matrices.{matrix_of}
use Rattle.convert.specs.Walked.{bytes_to}
use Rattle.convert.proofs.put_reads.Given as goal

-- Of the reads passed those with cells are laid one after the other.
abbrev pub invariant-loop-r : goal.invariant-loop-r
invariant-loop-r l =
    let M = matrix_of l.reads in
    (l.at ≡ read_start l.reads.bytes.now l.r) × (l.at ≤ 65537 * l.r) × (l.to ≡ 9 + length (bytes_to M l.r)) × (length l.out ≡ length l.initial.out) × (l.out ≡ laid 9 (bytes_to M l.r) l.initial.out)
