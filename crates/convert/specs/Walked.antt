-- What the walks over the reads have after r of them.
use Rattle.std.specs.Prelude.{ℕ, zero, suc, ◌+◌, cond, List, [], ◌∷◌, ◌++◌}
use Rattle.meaning.specs.Numbers.{bit, bytes_of}
use Rattle.meaning.specs.Block.{Matrix}
use Rattle.meaning.specs.Active.{read}
use Rattle.meaning.specs.Kept.{filled}
use Rattle.meaning.specs.Convert.{read_bytes}

-- the version 2 bytes of those of the first r reads that have cells
unfoldable pub bytes_to : Matrix → ℕ → List ℕ
bytes_to M zero = []
bytes_to M (suc r) = bytes_to M r ++ cond (filled (read M r)) (read_bytes (read M r)) []

-- how many they are
unfoldable pub kept_to : Matrix → ℕ → ℕ
kept_to M zero = 0
kept_to M (suc r) = kept_to M r + bit (filled (read M r))

-- version, number of bytes that follow byte 4, m, n
unfoldable pub head_bytes : ℕ → ℕ → ℕ → List ℕ
head_bytes m n bytes = (2 ∷ bytes_of 4 (4 + bytes)) ++ (bytes_of 2 m ++ bytes_of 2 n)
