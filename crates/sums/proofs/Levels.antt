-- With its level a column's charge is the mode's, and the whole level above it.
use Prim.Native.Nat.{ℕ, ◌+◌, ◌≤◌}
use mathlib.Core.Bool.{Bool, true, false}
use mathlib.Core.Path.{◌≡◌}
use native.Mathlib.Omega.{arith}
use Rattle.meaning.specs.Charge.{Letter, Sums, charge_of}
use Rattle.meaning.specs.Letters.{crossed_charge, mode_of}
use Rattle.sums.specs.Sums.{pair_at}
use Rattle.sums.specs.Level.{everywhere, level_of, raised, whole_of}

pub level_charge : (b : Bool) (x : Sums) → charge_of (raised x (level_of b x)) ≡ (mode_of b).charged x + whole_of (level_of b x)
unfolding charge_of crossed_charge
level_charge false x = omega arith
level_charge true x = omega arith

-- the level is at most what the dearer letter costs everywhere
pub level_small : (b : Bool) (x : Sums) (most : ℕ) → everywhere x false ≤ most → everywhere x true ≤ most → (l : Letter) → pair_at (level_of b x) l ≤ most
level_small false x most h k false = omega arith
level_small false x most h k true = omega arith
level_small true x most h k false = omega arith
level_small true x most h k true = omega arith
