-- The weight of the entries that disagree, column by column.
use Prim.Native.Nat.{ℕ, ◌+◌, ◌*◌, ◌≤◌, ◌<◌, zero-le}
use lib.Dec.{eqb}
use mathlib.Core.Bool.{true, false, not}
use mathlib.Core.List.{List}
use mathlib.Core.Path.{◌≡◌, refl, sym, ap, ap₂, ◌∙◌}
use native.Mathlib.Omega.{arith}
use Rattle.meaning.specs.Numbers.{sum_to}
use Rattle.meaning.specs.Block.{Matrix}
use Rattle.meaning.specs.Charge.{W}
use Rattle.meaning.specs.Letters.{disagreement}
use Rattle.meaning.specs.Judge.{stated_cost, stated_division, stated_haplotypes, wrong_cost}
use Rattle.meaning.proofs.Totals.{sum_ext}
use Rattle.meaning.proofs.Sums.{column-sides}
use Rattle.meaning.proofs.Bounds.{sums_bound}
use Rattle.sums.proofs.Laws.{leaf_more}
use Rattle.stated.specs.declared.side.ColumnAt.{ColumnAt}
use Rattle.stated.specs.Stated.{StatedTally, Stands, against_of}
use Rattle.stated.proofs.AtColumn.{against-at}

-- of column j, by sides
abbrev pub weight_at : Matrix → List ℕ → ℕ → ℕ
weight_at M a j = W M (stated_division a) j false (stated_haplotypes a false j) + W M (stated_division a) j true (stated_haplotypes a true j)

-- 12 reads of weight 65,535 at most
pub weight-small : (M : Matrix) (a tally : List ℕ) → StatedTally M a tally → (j : ℕ) → j < M.columns → weight_at M a j ≤ 786420
weight-small M a tally told j l =
    omega (arith, told.thin j l, sums_bound M 65535 told.light (stated_division a) j (stated_haplotypes a false j) (stated_haplotypes a true j))

-- the columns before j are weighed
pub record WeighedTo (M : Matrix) (a : List ℕ) (total j : ℕ) : Type 0 where
  pub total_is : total ≡ sum_to j (weight_at M a)
  pub small : total ≤ j * 786420

module _ (M : Matrix) (a : List ℕ) where
  pub weighed_none : WeighedTo M a 0 0
  unfolding sum_to
  weighed_none = record { total_is = refl; small = zero-le }

  module _ (total j : ℕ) (w : WeighedTo M a total j) (c : ColumnAt) (h : Stands M a j c) (light : weight_at M a j ≤ 786420)
      (x y : ℕ) (first : x ≡ against_of c.first) (second : y ≡ against_of c.second) where
    column_is : x + y ≡ weight_at M a j
    column_is = ap₂ ◌+◌ (first ∙ against-at M a j false c.first h.first_stands) (second ∙ against-at M a j true c.second h.second_stands)

    pub weighed_more : WeighedTo M a (total + (x + y)) (j + 1)
    weighed_more = record {
      total_is = ap₂ ◌+◌ w.total_is column_is ∙ sym (leaf_more j (weight_at M a));
      small = omega (arith, w.small, column_is);
    }

  pub weighed_all : (total j : ℕ) → WeighedTo M a total j → j ≡ M.columns → total ≡ disagreement M (stated_division a) (stated_haplotypes a)
  unfolding disagreement
  weighed_all total j w k =
      w.total_is
      ∙ ap (λ (n : ℕ). sum_to n (weight_at M a)) k
      ∙ sum_ext M.columns (λ i _. sym (column-sides M (stated_division a) i (λ s. stated_haplotypes a s i)))

-- what the code compares
pub cost_told : (M : Matrix) (a : List ℕ) (x y : ℕ) → x ≡ stated_cost a → y ≡ disagreement M (stated_division a) (stated_haplotypes a) → not (eqb x y) ≡ wrong_cost M a
unfolding wrong_cost
cost_told M a x y p q = ap₂ (λ (u v : ℕ). not (eqb u v)) p q
