-- The first 17 bytes of an answer block.
use Rattle.std.specs.Prelude.{ℕ, ◌+◌, ◌*◌, List, ◌∷◌, ◌++◌}
use Rattle.meaning.specs.Numbers.{bytes_of}

-- version, number of bytes that follow byte 4, cost, number of flips, n, m
unfoldable pub head_bytes : ℕ → ℕ → ℕ → ℕ → List ℕ
head_bytes cost flips n m = (2 ∷ bytes_of 4 (12 + n + 2 * m)) ++ (bytes_of 4 cost ++ (bytes_of 4 flips ++ (bytes_of 2 n ++ bytes_of 2 m)))
