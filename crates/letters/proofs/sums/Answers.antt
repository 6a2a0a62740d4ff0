use Prim.Native.Nat.{ℕ, ◌%◌}
use Rattle.std.proofs.Common.{rules}
use mathlib.Core.Path.{◌∙◌}
use Rattle.tally.specs.Tally.{unit}
use Rattle.letters.proofs.Parts.{sums_read}
use Rattle.letters.proofs.Sides.{read_small}
use Rattle.letters.proofs.sums.Goals as goal

pub returns : goal.returns
returns c =
    let weights = c.parts_at.ensures (λ (x : ℕ). x % unit) (λ x y post. search rules) in
    record { value = (λ M sides of inside. weights ∙ sums_read M sides _ of _ inside); small = rw weights (read_small _ _ _ _) }
