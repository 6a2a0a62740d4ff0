-- The four sums of a column from pairs of weights, one pair for each active read.
use Rattle.std.specs.Prelude.{ℕ, ◌+◌, ◌-◌, ◌≤◌, ◌<◌, true, false, cond, not, List, [], ◌∷◌, get_or, eqb}
use Rattle.std.specs.Bool.{beq}
use Rattle.meaning.specs.Numbers.{bit, sum_to}
use Rattle.meaning.specs.Block.{Cell}
use Rattle.meaning.specs.Division.{Side}
use Rattle.meaning.specs.Charge.{Letter, Sums, against}

-- a 2 by 2 array of sums, by side and letter; and back
abbrev pub sums_of : List (List ℕ) → Sums
sums_of a s l = get_or (get_or a (bit s) []) (bit l) 0

abbrev pub array_of : Sums → List (List ℕ)
array_of x = (x false false ∷ x false true ∷ []) ∷ (x true false ∷ x true true ∷ []) ∷ []

-- none of the four is above a thousand million
abbrev pub Small : Sums → Type 0
Small x = (s : Side) (l : Letter) → x s l ≤ 1000000000

-- what a pair has for a letter: what it costs to write that letter on its read's side
abbrev pub pair_at : List ℕ → Letter → ℕ
pair_at pair l = get_or pair (bit l) 0

-- the pair of a cell
abbrev pub pair_of : Cell → List ℕ
pair_of c = against false c ∷ against true c ∷ []

-- the i-th read's pair, for a letter
abbrev pub weight_of : List (List ℕ) → ℕ → Letter → ℕ
weight_of w i l = pair_at (get_or w i []) l

-- no weight of the first p reads is above the limit
abbrev pub LightPairs : List (List ℕ) → ℕ → ℕ → Type 0
LightPairs w p lim = (i : ℕ) → i < p → (l : Letter) → weight_of w i l ≤ lim

-- the four sums of the first p reads, each on a side
unfoldable pub sums_with : List (List ℕ) → ℕ → (ℕ → Side) → Sums
sums_with w p side s l = sum_to p (λ i. cond (beq (side i) s) (weight_of w i l) 0)

-- side 0 or side 1 by its number
abbrev pub side_of : ℕ → Side
side_of n = eqb n 1

-- one read's pair moved from a side to the other
abbrev pub moved_sums : Sums → (Letter → ℕ) → Side → Sums
moved_sums x w from s l = cond (beq s from) (x s l - w l) (x s l + w l)

-- what is taken away is there, and what it is added to stays small
abbrev pub Movable : Sums → (Letter → ℕ) → Side → Type 0
Movable x w from = (l : Letter) → (w l ≤ x from l) × (x (not from) l + w l ≤ 1000000000)
