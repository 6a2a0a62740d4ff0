-- What printing an answer block asks of it.
use Rattle.std.specs.Prelude.{ℕ, ◌+◌, ◌*◌, ◌≤◌, List, length}
use Rattle.meaning.specs.Numbers.{word}

-- the block has the sides and letters that its n and m say
pub record Whole (answer : List ℕ) : Type 0 where
  pub reads : word answer 13 ≤ 1024
  pub columns : word answer 15 ≤ 1024
  pub sized : 17 + word answer 13 + 2 * word answer 15 ≤ length answer
