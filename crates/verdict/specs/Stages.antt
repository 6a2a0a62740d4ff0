-- How far a judging has come: which verdicts do not apply.
use Rattle.std.specs.Prelude.{ℕ, ◌≡◌, false, List}
use Rattle.meaning.specs.Block.{Matrix}
use Rattle.meaning.specs.Judge.{malformed, other_counts, unknown_mark, false_dash, wrong_cost, not_least}

-- none of 50 to 52
pub record Marked (M : Matrix) (a : List ℕ) : Type 0 where
  pub formed : malformed a ≡ false
  pub counted : other_counts M a ≡ false
  pub known : unknown_mark a ≡ false

-- nor 53 to 55
pub record Least (M : Matrix) (a : List ℕ) : Type 0 where
  pub marked : Marked M a
  pub dashed : false_dash M a ≡ false
  pub weighed : wrong_cost M a ≡ false
  pub least : not_least M a ≡ false
