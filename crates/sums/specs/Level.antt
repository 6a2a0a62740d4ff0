-- The level of a column: with it the lesser sum of each side gives the charge of either mode.
use Rattle.std.specs.Prelude.{ℕ, ◌+◌, ◌-◌, ◌/◌, Bool, true, false, List, [], ◌∷◌}
use Rattle.meaning.specs.Charge.{Letter, Sums}
use Rattle.sums.specs.Sums.{pair_at}

-- both sides' sums of a letter: what it costs to write that letter everywhere
abbrev pub everywhere : Sums → Letter → ℕ
everywhere x l = x false l + x true l

-- nothing in the general mode; in the all-heterozygous one each letter is raised by half of what it costs less than the other
abbrev pub level_of : Bool → Sums → List ℕ
level_of false x = 0 ∷ 0 ∷ []
level_of true x = (everywhere x true - everywhere x false) / 2 ∷ (everywhere x false - everywhere x true) / 2 ∷ []

-- the sums with a level added
abbrev pub raised : Sums → List ℕ → Sums
raised x level s l = x s l + pair_at level l

-- what it adds to the charge
abbrev pub whole_of : List ℕ → ℕ
whole_of level = pair_at level false + pair_at level true
