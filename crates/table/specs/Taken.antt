-- What a column takes over from the one before, and the column that it then has.
use Rattle.std.specs.Prelude.{ℕ, zero, suc, ◌-◌, ◌*◌, ◌/◌, ◌≤◌, ◌<◌, ◌≡◌, List, [], length, get_or, take, drop}
use Rattle.meaning.specs.Block.{Matrix}
use Rattle.meaning.specs.Active.{used}
use Rattle.meaning.specs.Closing.{active_reads}
use Rattle.meaning.specs.Charge.{Charge}
use Rattle.meaning.specs.Rule.{index_at, least_at, shared_reads, column_from, column_of}
use Rattle.layout.specs.declared.runs.Column.{Column}
use Rattle.layout.specs.Lists.{count_at}

-- what is asked to hand on to column j, with t entries a column and s shared reads: the column before has room for its own
pub record Handing (lists : List Column) (j t s : ℕ) (work taken : List ℕ) : Type 0 where
  pub room : used s ≤ length taken
  pub written : j * t ≤ length work
  pub listed : 0 < j → j - 1 < length lists
  pub few : 0 < j → count_at lists (j - 1) ≤ 12
  pub shared : 0 < j → s ≤ count_at lists (j - 1)
  pub fits : 0 < j → used (count_at lists (j - 1)) ≤ t

-- for each index of the s shared reads the least entry of the column before; 0 at column 0
abbrev pub HandedOn : List Column → ℕ → ℕ → ℕ → List ℕ → List ℕ → Type 0
HandedOn lists zero t s work taken = get_or taken 0 0 ≡ 0
HandedOn lists (suc i) t s work taken =
    (g : ℕ) → g < used s → get_or taken g 0 ≡ least_at (used s) (used (count_at lists i) / used s) (take t (drop (i * t) work)) g

-- those of column j's active reads that are active at the column before too; none at column 0
abbrev pub shared_before : Matrix → ℕ → List ℕ
shared_before M zero = []
shared_before M (suc i) = shared_reads M i

-- what column i + 1 takes over from column i, for each index of the shared reads
abbrev pub TakenOver : Matrix → ℕ → List ℕ → List ℕ → Type 0
TakenOver M i work taken =
    (g : ℕ) → g < used (length (shared_reads M i))
    → get_or taken g 0 ≡ least_at (used (length (shared_reads M i))) (used (length (active_reads M i)) / used (length (shared_reads M i))) (column_of M work i) g

-- what column j takes over: nothing at column 0
abbrev pub TakenBefore : Matrix → ℕ → List ℕ → List ℕ → Type 0
TakenBefore M zero work taken = get_or taken 0 0 ≡ 0
TakenBefore M (suc i) work taken = TakenOver M i work taken

-- what is taken over for each index of the shared reads has its place, and is small enough to add a charge to
pub record TakenFits (M : Matrix) (j : ℕ) (taken : List ℕ) : Type 0 where
  pub room : used (length (shared_before M j)) ≤ length taken
  pub small : (g : ℕ) → g < used (length (shared_before M j)) → get_or taken g 0 ≤ 4000000000

-- column j, where each division takes over what stands at the index of its shared reads
abbrev pub passed_over : Charge → Matrix → ℕ → List ℕ → List ℕ
passed_over C M j taken = column_from C M j (λ d. get_or taken (index_at (shared_before M j) d) 0)
