-- What is told of a refusal.
use Rattle.std.proofs.Common.{◌≡◌, ◌≢◌, ◌<◌, arith}
use Rattle.refusal.specs.Numbers.{refusal_number}
use Rattle.refusal.specs.declared.Refusal.{Refusal}
use Rattle.refusal.specs.declared.Refusal.TheVariants.{Short, Version, Size, Counts, Length, Empty, Place, Cell, LeftOver, Crowded, Work, Output, Margins, Room}

-- a refusal has a number
pub refusal-numbered : (e : Refusal) → refusal_number e ≢ 0
refusal-numbered Short = omega arith
refusal-numbered Version = omega arith
refusal-numbered Size = omega arith
refusal-numbered Counts = omega arith
refusal-numbered (Length r) = omega arith
refusal-numbered (Empty r) = omega arith
refusal-numbered (Place r) = omega arith
refusal-numbered (Cell r) = omega arith
refusal-numbered LeftOver = omega arith
refusal-numbered (Crowded j) = omega arith
refusal-numbered (Work need) = omega arith
refusal-numbered (Output need) = omega arith
refusal-numbered (Margins need) = omega arith
refusal-numbered (Room need) = omega arith

-- above the number of an answer
pub refusal_above : (e : Refusal) → 0 < refusal_number e
refusal_above e = omega (arith, refusal-numbered e)
