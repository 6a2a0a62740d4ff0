-- What writing a piece of text leaves.
use Rattle.std.specs.Prelude.{ℕ, ◌+◌, ◌≤◌, ◌≡◌, List, ◌++◌, length, take, drop}

-- the piece stands in the text from `at` to `end`, all else is kept
pub record Put (text : List ℕ) (at : ℕ) (piece after : List ℕ) (end : ℕ) : Type 0 where
  pub fits : at + length piece ≤ length text
  pub ends : end ≡ at + length piece
  pub holds : after ≡ take at text ++ (piece ++ drop (at + length piece) text)
