use mathlib.Core.Path.{◌≡◌}
use Prim.Native.Nat.{◌*◌, ◌≤◌}
use lib.ListN.{length}
use Rattle.layout.specs.Places.{read_start}
use Rattle.layout.specs.Matrices.{matrix_of}
use Rattle.convert.specs.Walked.{bytes_to, kept_to}
use Rattle.convert.proofs.kept_in.Given as goal

-- Of the reads passed those with cells are counted, and their bytes.
abbrev pub invariant-loop-r : goal.invariant-loop-r
invariant-loop-r l =
    let M = matrix_of l.reads in
    (l.at ≡ read_start l.reads.bytes.now l.r) × (l.at ≤ 65537 * l.r) × (l.kept.count ≡ kept_to M l.r) × (l.kept.count ≤ l.r) × (l.kept.bytes ≡ length (bytes_to M l.r)) × (l.kept.bytes ≤ 3076 * l.r)
