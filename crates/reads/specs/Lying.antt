-- A read that passes the checks, as it lies in the bytes.
use Rattle.std.specs.Prelude.{ℕ, ◌+◌, ◌*◌, ◌≤◌, ◌<◌, ◌≡◌, length}
use Rattle.meaning.specs.Active.{read}
use Rattle.layout.specs.declared.reads.Reads.{Reads}
use Rattle.layout.specs.Matrices.{matrix_of}
use Rattle.layout.specs.Places.{read_start, cells_start}
use Rattle.reads.specs.declared.Lying.{Lying}

-- read r of the reads starts at `at`
abbrev pub Starts : Reads → ℕ → ℕ → Type 0
Starts reads r at = (r < reads.shape.n) × (at ≡ read_start reads.bytes.now r) × (at ≤ 65537 * r)

-- read r is the one that lies so
pub record Lies (reads : Reads) (r : ℕ) (lying : Lying) : Type 0 where
  pub first_is : lying.first ≡ (read (matrix_of reads) r).first
  pub count_is : lying.count ≡ length (read (matrix_of reads) r).cells
  pub start_is : lying.start ≡ cells_start reads.bytes.now r
  pub next_is : lying.next ≡ read_start reads.bytes.now (r + 1)
  pub filled : lying.next ≡ lying.start + reads.shape.size * lying.count
  pub inside : lying.next ≤ length reads.bytes.now
  pub early : lying.next ≤ 65537 * (r + 1)
  pub by_last : lying.first + lying.count ≤ 1024
