-- Active reads by the spans of the reads: for each read its first column and the column after its last.
use Rattle.std.specs.Prelude.{ℕ, zero, suc, ◌<◌, ◌≡◌, Bool, cond, ◌&&◌, List, [], ◌∷◌, leb, ltb}
use Rattle.meaning.specs.Numbers.{bit, sum_to}
use Rattle.meaning.specs.Block.{Matrix}
use Rattle.meaning.specs.Active.{count, read, end}

-- whether column j is one of from .. to - 1
abbrev pub within : ℕ → ℕ → ℕ → Bool
within from to j = leb from j && ltb j to

-- whether column j is in the span of read r
abbrev pub spans : (ℕ → ℕ) → (ℕ → ℕ) → ℕ → ℕ → Bool
spans first ends r j = within (first r) (ends r) j

-- of the reads before n, how many are active at column j
unfoldable pub height_at : (ℕ → ℕ) → (ℕ → ℕ) → ℕ → ℕ → ℕ
height_at first ends n j = sum_to n (λ r. bit (spans first ends r j))

-- read r put into a list, behind all that end later
abbrev pub inserted : (ℕ → ℕ) → ℕ → List ℕ → List ℕ
inserted ends r [] = r ∷ []
inserted ends r (x ∷ xs) = cond (ltb (ends r) (ends x)) (x ∷ inserted ends r xs) (r ∷ x ∷ xs)

-- and only where column j is in its span
abbrev pub joined : (ℕ → ℕ) → (ℕ → ℕ) → ℕ → ℕ → List ℕ → List ℕ
joined first ends r j l = cond (spans first ends r j) (inserted ends r l) l

-- of the k reads from r on those that are active at column j, latest end first, equal ends by number: the last joins first
unfoldable pub list_from : (ℕ → ℕ) → (ℕ → ℕ) → ℕ → ℕ → ℕ → List ℕ
list_from first ends r zero j = []
list_from first ends r (suc k) j = joined first ends r j (list_from first ends (suc r) k j)

-- and of the reads before n
abbrev pub list_at : (ℕ → ℕ) → (ℕ → ℕ) → ℕ → ℕ → List ℕ
list_at first ends n j = list_from first ends 0 n j

-- the spans are those of the matrix
pub record Spanned (M : Matrix) (first after : ℕ → ℕ) : Type 0 where
  pub firsts : (r : ℕ) → r < count M → first r ≡ (read M r).first
  pub ends : (r : ℕ) → r < count M → after r ≡ end (read M r)
