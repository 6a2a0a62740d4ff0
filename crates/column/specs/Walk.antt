-- The walk through a column's indices in Gray code order.
use Rattle.std.specs.Prelude.{ℕ, ◌-◌, ◌/◌, ◌%◌, ◌^◌, ◌≤◌, ◌<◌, Bool, false, List, ◌≡◌, length, get_or}
use Rattle.std.specs.Int.Bits.{bit_xor}
use Rattle.std.specs.Int.Count.{count_trailing_zeros}
use Rattle.fold.specs.Turn.{fold_to, side_at}
use Rattle.meaning.specs.Active.{used}
use Rattle.meaning.specs.Charge.{Letter, Sums, charge_of}
use Rattle.sums.specs.Sums.{array_of, pair_at, LightPairs, sums_with}
use Rattle.sums.specs.Level.{level_of, raised}
use Rattle.column.specs.Pass.{Room, entry_at}
use Rattle.column.specs.declared.Column.{Column}

-- the index of step n
unfoldable pub gray : ℕ → ℕ
gray n = bit_xor n (n / 2)

-- the charge of sums that are raised by a level
abbrev pub levelled : List ℕ → Sums → ℕ
levelled level x = charge_of (raised x level)

-- the level of a column with p reads, in the mode of the flag: the same at all its indices
abbrev pub level_at : Bool → List (List ℕ) → ℕ → List ℕ
level_at b w p = level_of b (sums_with w p (λ i. false))

-- a level is small
abbrev pub Low : List ℕ → Type 0
Low level = (l : Letter) → pair_at level l ≤ 1000000

-- entry k is written
abbrev pub Written : List (List ℕ) → List ℕ → ℕ → List ℕ → List ℕ → List ℕ → ℕ → Type 0
Written w turn p level taken part k = get_or part k 0 ≡ entry_at (levelled level) w turn taken p k

-- a column with p reads: these are the four sums of index k, raised by the level, and its index on the shared reads
pub record At (w : List (List ℕ)) (turn : List ℕ) (p : ℕ) (level taken : List ℕ) (s : List (List ℕ)) (k q : ℕ) : Type 0 where
  pub few : p ≤ 12
  pub light : LightPairs w p 65535
  pub low : Low level
  pub room : Room turn p taken
  pub below : k < used p
  pub sums_are : s ≡ array_of (raised (sums_with w p (side_at k)) level)
  pub fold_is : q ≡ fold_to turn k p

-- the first n steps are done: their entries are written, and the walk stands at the index of the last one
pub record Walked (w : List (List ℕ)) (turn : List ℕ) (p : ℕ) (level taken : List ℕ) (n : ℕ) (part : List ℕ) (s : List (List ℕ)) (k q : ℕ) : Type 0 where
  pub at : At w turn p level taken s k q
  pub inside : used p ≤ length part
  pub index : k ≡ gray (n - 1)
  pub done : (i : ℕ) → i < n → Written w turn p level taken part (gray i)

-- step n is the next one: it turns digit d, whose read is on side `from`
pub record Turns (w : List (List ℕ)) (turn : List ℕ) (p : ℕ) (level taken : List ℕ) (n : ℕ) (part : List ℕ) (s : List (List ℕ)) (k q d from : ℕ) : Type 0 where
  pub some : 0 < n
  pub below : n < used p
  pub lowest : d ≡ count_trailing_zeros 64 n
  pub side : from ≡ k / 2 ^ d % 2
  pub walked : Walked w turn p level taken n part s k q

-- the same of a column as the code has it
abbrev pub level_in : Column → List ℕ
level_in c = level_at c.heterozygous c.w.now c.p

abbrev pub ColumnWalked : Column → ℕ → List ℕ → List (List ℕ) → ℕ → ℕ → Type 0
ColumnWalked c n part s k q = Walked c.w.now c.turn.now c.p (level_in c) c.taken.now n part s k q

abbrev pub ColumnTurns : Column → ℕ → List ℕ → List (List ℕ) → ℕ → ℕ → ℕ → ℕ → Type 0
ColumnTurns c n part s k q d from = Turns c.w.now c.turn.now c.p (level_in c) c.taken.now n part s k q d from
