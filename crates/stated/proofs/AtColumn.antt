-- One side of a column, and the verdicts 53 and 54 column by column.
use Prim.Native.Nat.{ℕ, ◌+◌, ◌<◌}
use mathlib.Core.Bool.{Bool, true, false, cond, ◌||◌}
use mathlib.Core.List.{List, []}
use mathlib.Core.Path.{◌≡◌, refl, sym, ap, ◌∙◌}
use native.Mathlib.Omega.{arith}
use lib.ListN.{get_or}
use lib.Dec.{eqb}
use Rattle.meaning.specs.Numbers.{any_to}
use Rattle.meaning.specs.Block.{Matrix}
use Rattle.meaning.specs.Division.{Side}
use Rattle.meaning.specs.Charge.{Letter, W}
use Rattle.meaning.specs.Letters.{letter_of, tied, reported}
use Rattle.meaning.specs.Judge.{stated_reads, stated_columns, stated_division, stated_letter, stated_haplotypes, false_dash_at, false_dash}
use Rattle.stated.specs.declared.side.SideAt.{SideAt}
use Rattle.sums.specs.Sums.{array_of}
use Rattle.stated.specs.Stated.{Sized, StandsAt, Stands, dash_of, against_of, other_of, either_side, other_letter_at, other_letters}
use Rattle.meaning.proofs.Lists.{any_at}
use Rattle.layout.proofs.Tests.{none_more}

-- what an array of the four sums and two letters say of column j
pub stands : (M : Matrix) (a : List ℕ) (m n j : ℕ) (s : List (List ℕ)) → Sized a m n → s ≡ array_of (W M (stated_division a) j)
    → Stands M a j
    (record {
      first = record { w0 = get_or (get_or s 0 []) 0 0; w1 = get_or (get_or s 0 []) 1 0; letter = get_or a (17 + n + j) 0 };
      second = record { w0 = get_or (get_or s 1 []) 0 0; w1 = get_or (get_or s 1 []) 1 0; letter = get_or a (17 + n + m + j) 0 };
    })
stands M a m n j s sized e =
    let at : (x t : ℕ) → get_or (get_or s x []) t 0 ≡ get_or (get_or (array_of (W M (stated_division a) j)) x []) t 0 =
    λ x t. ap (λ (y : List (List ℕ)). get_or (get_or y x []) t 0) e in
    let first : 17 + n + j ≡ 17 + stated_reads a + 0 + j = omega (arith, sized.reads) in
    let second : 17 + n + m + j ≡ 17 + stated_reads a + stated_columns a + j = omega (arith, sized.reads, sized.columns) in
    record {
      first_stands = record { zero_is = at 0 0; one_is = at 0 1; letter_is = ap (λ (k : ℕ). get_or a k 0) first };
      second_stands = record { zero_is = at 1 0; one_is = at 1 1; letter_is = ap (λ (k : ℕ). get_or a k 0) second };
    }

-- what is asked of a side, said of the answer
module _ (M : Matrix) (a : List ℕ) (j : ℕ) (s : Side) (x : SideAt) (h : StandsAt M a j s x) where
  pub dash_at : dash_of x ≡ false_dash_at M a j s
  unfolding false_dash_at tied
  dash_at = rw (h.letter_is, h.zero_is, h.one_is)

  pub other_at : other_of x ≡ other_letter_at M a j s
  unfolding reported tied letter_of
  other_at = rw (h.letter_is, h.zero_is, h.one_is)

  pub against-at : against_of x ≡ W M (stated_division a) j s (stated_haplotypes a s j)
  against-at = rw (h.letter_is, h.zero_is, h.one_is) (pick (eqb (stated_letter a s j) 1))
    where
      pick : (l : Letter) → cond l (W M (stated_division a) j s true) (W M (stated_division a) j s false) ≡ W M (stated_division a) j s l
      pick true = refl
      pick false = refl

-- a search for a column where a test passes on one of the two sides
pub none_yet : (f : ℕ → Bool) → any_to 0 f ≡ false
unfolding any_to
none_yet f = refl

module _ (passes : ℕ → Side → Bool) (j : ℕ) (r : Bool) (first : r ≡ passes j false) where
  pub found_first : (m : ℕ) → j < m → r ≡ true → true ≡ any_to m (either_side passes)
  found_first m l e = sym (any_at m (either_side passes) j l (ap (λ (b : Bool). b || passes j true) (sym first ∙ e)))

  module _ (none : r ≡ false) (q : Bool) (second : q ≡ passes j true) where
    both_are : q ≡ either_side passes j
    both_are = second ∙ sym (ap (λ (b : Bool). b || passes j true) (sym first ∙ none))

    pub found_second : (m : ℕ) → j < m → q ≡ true → true ≡ any_to m (either_side passes)
    found_second m l e = sym (any_at m (either_side passes) j l (sym both_are ∙ e))

    pub found_neither : any_to j (either_side passes) ≡ false → q ≡ false → any_to (j + 1) (either_side passes) ≡ false
    found_neither s e = none_more j (either_side passes) s (sym both_are ∙ e)

-- through all columns
module _ (M : Matrix) (a : List ℕ) where
  pub dash_columns : any_to M.columns (either_side (false_dash_at M a)) ≡ false_dash M a
  unfolding false_dash
  dash_columns = refl

  pub other-columns : any_to M.columns (either_side (other_letter_at M a)) ≡ other_letters M a
  unfolding other_letters
  other-columns = refl
