-- The entries of one class of a column, row by row.
use Prim.Native.Nat.{ℕ, zero, suc, ◌+◌, ◌-◌, ◌*◌, ◌/◌, ◌≤◌, ◌<◌, min}
use lib.ListN.{length, get_or}
use mathlib.Core.List.{List}
use mathlib.Core.Path.{◌≡◌, ap, ◌∙◌}
use native.Mathlib.Nat.{lt_of_mul-lt-mul_right, mul_comm}
use native.Mathlib.Omega.{arith}
use Rattle.meaning.specs.Numbers.{min_to}
use Rattle.meaning.specs.Rule.{least_at}

module _ (col : List ℕ) (from step : ℕ) where
  -- the entry of a row
  abbrev pub entry : ℕ → ℕ
  entry row = get_or col (from + row * step) 0

  -- the column has whole rows
  pub record Whole : Type 0 where
    pub positive : 0 < step
    pub rows : step * (length col / step) ≡ length col
    pub some : 0 < length col

  -- the least of the rows before one
  pub least_none : get_or col from 0 ≡ min_to 0 entry
  unfolding min_to
  least_none = ap (λ (i : ℕ). get_or col i 0) (first from step)
    where
      first : (f t : ℕ) → f ≡ f + 0 * t
      first f t = omega arith

  pub least_more : (least row : ℕ) → 1 ≤ row → least ≡ min_to (row - 1) entry → min least (entry row) ≡ min_to (row + 1 - 1) entry
  unfolding min_to
  least_more least zero l e = absurd (omega arith)
  least_more least (suc row) l e =
      let before : suc row - 1 ≡ row = omega arith in
      let after : suc row + 1 - 1 ≡ suc row = omega arith in
      rw (e, before, after)

  pub least_all : (least row : ℕ) → row ≡ length col / step → least ≡ min_to (row - 1) entry → least ≡ least_at step (length col / step) col from
  unfolding least_at
  least_all least row e h = h ∙ ap (λ (n : ℕ). min_to (n - 1) entry) e

  pub some_row : Whole → 0 < length col / step
  some_row w = lt_of_mul-lt-mul_right step (omega (arith, mul_comm (length col / step) step ∙ w.rows, w.some))
