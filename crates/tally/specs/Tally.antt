-- The tally of a matrix: for each column, side and letter how many entries it has, and their weight.
use Rattle.std.specs.Prelude.{ℕ, ◌+◌, ◌*◌, ◌≤◌, ◌<◌, cond, List, ◌≡◌, eqb, length, get_or}
use Rattle.std.specs.Bool.{beq}
use Rattle.meaning.specs.Numbers.{bit, sum_to}
use Rattle.meaning.specs.Block.{Cell, Read, Matrix}
use Rattle.meaning.specs.Active.{count, read, at}
use Rattle.meaning.specs.Division.{Side, Division}
use Rattle.meaning.specs.Charge.{Letter}
use Rattle.meaning.specs.Answer.{division_of}
use Rattle.meaning.proofs.Bounds.{Light}
use Rattle.layout.specs.Lists.{Thin}

-- 2^20, above the weight of any 12 cells
abbrev pub unit : ℕ
unit = 1048576

-- what a cell adds to the tally of letter l: if that is its letter, one entry and its weight
unfoldable pub tally_of : Letter → Cell → ℕ
tally_of l c = cond (eqb c.letter (bit l)) (unit + c.weight) 0

-- what the first r reads add to the tally of side s and letter l at column j
unfoldable pub tallied_to : Matrix → Division → ℕ → ℕ → Side → Letter → ℕ
tallied_to M d r j s l = sum_to r (λ q. cond (beq (d q) s) (tally_of l (at (read M q) j)) 0)

-- where it stands
abbrev pub place : ℕ → Side → Letter → ℕ
place j s l = 4 * j + 2 * bit s + bit l

-- the tally for sides of a matrix of at most 1,024 reads, 12 of them at a column, whose weights have two bytes at most
pub record Tallied (M : Matrix) (sides tally : List ℕ) : Type 0 where
  pub few-reads : count M ≤ 1024
  pub thin : Thin M
  pub light : Light M 65535
  pub room : 4 * M.columns ≤ length tally
  pub each : (j : ℕ) → j < M.columns → (s : Side) (l : Letter)
      → get_or tally (place j s l) 0 ≡ tallied_to M (division_of sides) (count M) j s l

-- one read more, on a side
abbrev pub ReadAdded : Read → Side → List ℕ → List ℕ → Type 0
ReadAdded x side old new = (j : ℕ) (s : Side) (l : Letter)
    → get_or new (place j s l) 0 ≡ get_or old (place j s l) 0 + cond (beq side s) (tally_of l (at x j)) 0
