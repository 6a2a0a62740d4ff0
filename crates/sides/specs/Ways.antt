-- What a table in a work room says, whatever it holds: its least cost, and the division of the way back.
use Rattle.std.specs.Prelude.{ℕ, ◌-◌, List, length, take}
use Rattle.meaning.specs.Block.{Matrix}
use Rattle.meaning.specs.Active.{used}
use Rattle.meaning.specs.Closing.{active_reads, closing_at}
use Rattle.meaning.specs.Division.{Division, first_over, all_zero}
use Rattle.meaning.specs.Rule.{entry_for, column_of, least_entry, way_back}

-- the entries of column j that stand for divisions: those behind them are 0
abbrev pub column_entries : Matrix → List ℕ → ℕ → List ℕ
column_entries M work j = take (used (length (active_reads M j))) (column_of M work j)

-- the least entry of the last column
abbrev pub table_least : Matrix → List ℕ → ℕ
table_least M work = least_entry (active_reads M (M.columns - 1)) (column_of M work (M.columns - 1))

-- one column of the way back: the reads that close at column j get their sides
abbrev pub back_at : Matrix → List ℕ → ℕ → Division → Division
back_at M work j d = first_over (closing_at M j) (entry_for (active_reads M j) (column_of M work j)) d

-- the whole way back
abbrev pub table_division : Matrix → List ℕ → Division
table_division M work = way_back M (column_of M work) M.columns all_zero
