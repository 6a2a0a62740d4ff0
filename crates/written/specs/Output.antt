-- What stands in an output while the answer block is written.
use Rattle.std.specs.Prelude.{ℕ, ◌+◌, ◌<◌, true, false, ◌≡◌, List, take, drop}
use Rattle.meaning.specs.Block.{Matrix}
use Rattle.meaning.specs.Division.{Division}
use Rattle.meaning.specs.Charge.{Charge}
use Rattle.meaning.specs.Letters.{Mode, haplotypes, flips}
use Rattle.meaning.specs.Table.{column}
use Rattle.meaning.specs.Answer.{division_of, letters_of}
use Rattle.meaning.specs.Rule.{column_of}
use Rattle.meaning.specs.Call.{laid}

-- the division whose n sides stand in it
abbrev pub division_in : ℕ → List ℕ → Division
division_in n out = division_of (take n (drop 17 out))

-- the flips of a division, against its own haplotypes
abbrev pub flips_of : Mode → Matrix → Division → ℕ
flips_of mode M d = flips M d (haplotypes mode M d)

-- with the letters of both haplotypes behind n sides
abbrev pub with_letters : Mode → Matrix → Division → ℕ → ℕ → List ℕ → List ℕ
with_letters mode M d n m out = laid (17 + n + m) (letters_of mode M d true) (laid (17 + n) (letters_of mode M d false) out)

-- every column of a table is right
abbrev pub RightColumns : Charge → Matrix → List ℕ → Type 0
RightColumns C M work = (j : ℕ) → j < M.columns → column_of M work j ≡ column C M j
