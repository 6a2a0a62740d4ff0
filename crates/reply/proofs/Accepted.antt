-- What `phase` prints of a block that is accepted, in either mode: the five lines of its answer.
use Prim.Native.Nat.{ℕ, ◌≤◌}
use mathlib.Core.Path.{◌≡◌, ◌∙◌}
use mathlib.Core.Bool.{true, false}
use mathlib.Core.List.{List}
use lib.ListN.{length, replicate, length-replicate}
use Rattle.meaning.specs.Block.{latest, matrix_of}
use Rattle.meaning.specs.Charge.{least_cost, best}
use Rattle.meaning.specs.Letters.{Mode, charge_in, haplotypes, flips}
use Rattle.meaning.specs.Answer.{sides_of, letters_of}
use Rattle.meaning.proofs.Modes.{Fair}
use Rattle.meaning.proofs.Formed.{Accepted}
use Rattle.meaning.proofs.Bounds.{Bytes}
use Rattle.text.proofs.Accepted.{five_lines, accepted_lines}
use Rattle.reply.specs.Printed.{printed}
use Rattle.reply.proofs.Laws.{printed-call}

pub accepted_printed : (mode : Mode) → Fair mode → (input : List ℕ) → Bytes input → length input ≤ 65536 → Accepted latest input 16384 4096
    → let M = matrix_of input in let d = best (charge_in mode) M in
    printed mode input
    ≡ five_lines (least_cost (charge_in mode) M) (flips M d (haplotypes mode M d)) (sides_of M d) (letters_of mode M d false) (letters_of mode M d true)
accepted_printed mode fair input bytes l a =
    printed-call mode input l ∙ accepted_lines mode latest input (replicate 16384 0) (replicate 4096 0) lent fair bytes
  where
    lent : Accepted latest input (length (replicate {A = ℕ} 16384 0)) (length (replicate {A = ℕ} 4096 0))
    lent = rw (length-replicate {A = ℕ} 16384 0, length-replicate {A = ℕ} 4096 0) a
