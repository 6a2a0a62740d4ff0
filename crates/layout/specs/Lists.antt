-- Each column's active reads: a run of columns, each with its count and room for twelve reads.
use Rattle.std.specs.Prelude.{ℕ, ◌≤◌, ◌<◌, ◌≡◌, List, [], length, get_or, take}
use Rattle.layout.specs.declared.runs.Column.{Column}
use Rattle.meaning.specs.Block.{Matrix}
use Rattle.meaning.specs.Active.{active_count}
use Rattle.meaning.specs.Closing.{active_reads}

-- no column has more than twelve active reads
abbrev pub Thin : Matrix → Type 0
Thin M = (j : ℕ) → j < M.columns → active_count M j ≤ 12

-- what stands behind the end of a run
abbrev pub no_reads : Column
no_reads = record { count = 0; reads = [] }

abbrev pub count_at : List Column → ℕ → ℕ
count_at lists j = (get_or lists j no_reads).count

abbrev pub reads_at : List Column → ℕ → List ℕ
reads_at lists j = (get_or lists j no_reads).reads

-- no column has a read yet
abbrev pub Unlisted : List Column → Type 0
Unlisted lists = (j : ℕ) → j < length lists → count_at lists j ≡ 0

-- column j's list is l
pub record Holds (lists : List Column) (j : ℕ) (l : List ℕ) : Type 0 where
  pub counted : count_at lists j ≡ length l
  pub listed : take (length l) (reads_at lists j) ≡ l

-- each column's list is its active reads in closing order, at most twelve
pub record Piled (M : Matrix) (lists : List Column) : Type 0 where
  pub room : M.columns ≤ length lists
  pub holds : (j : ℕ) → j < M.columns → Holds lists j (active_reads M j)
  pub few : (j : ℕ) → j < M.columns → length (active_reads M j) ≤ 12
