-- The margins of all columns, read off a tally and written column by column.
use Prim.Native.Nat.{ℕ, ◌+◌, ◌-◌, ◌*◌, ◌≤◌, ◌<◌, zero-le}
use lib.ListN.{length, take, drop, set, length-set}
use mathlib.Core.Bool.{true, false}
use mathlib.Core.List.{List, ◌++◌}
use mathlib.Core.Path.{◌≡◌, refl, sym, ap, ap₂, ◌∙◌}
use native.Mathlib.Nat.{zero-add}
use native.Mathlib.Omega.{arith}
use Rattle.meaning.specs.Block.{Matrix}
use Rattle.meaning.specs.Division.{Side, Division}
use Rattle.meaning.specs.Charge.{W}
use Rattle.meaning.specs.Letters.{general}
use Rattle.meaning.specs.Answer.{division_of}
use Rattle.meaning.specs.Call.{over, laid}
use Rattle.meaning.specs.Margins.{margin_of, side_margins, margins_of}
use Rattle.meaning.proofs.Rooms.{laid_join, laid_front}
use Rattle.meaning.proofs.Margins.{length-side-margins}
use Rattle.tally.specs.Tally.{Tallied}
use Rattle.letters.specs.declared.Letters.{Letters}
use Rattle.letters.specs.Lettered.{Lettered}
use Rattle.written.specs.Output.{division_in}
use Rattle.written.proofs.Pairs.{pairs_to, pairs_none, pairs_more}

-- a side's margin at a column
abbrev margin_at : Matrix → Division → Side → ℕ → ℕ
margin_at M d s j = margin_of general (W M d j) s

-- those of the first j columns
abbrev margins_to : Matrix → Division → ℕ → ℕ → List ℕ → List ℕ
margins_to M d m j old = pairs_to 0 m (margin_at M d false) (margin_at M d true) j old

-- they stand in the run, whatever matrix and sides the tally is of
pub record Margined (m : ℕ) (tally old margins : List ℕ) (j : ℕ) : Type 0 where
  pub inside : j ≤ m
  pub same_length : length margins ≡ length old
  pub written : (M : Matrix) (sides : List ℕ) → Tallied M sides tally → m ≡ M.columns → margins ≡ margins_to M (division_of sides) m j old

module _ (m : ℕ) (tally old : List ℕ) (fits : 2 * m ≤ length old) where
  room : 0 + 2 * m ≤ length old
  room = omega arith

  pub margined_none : Margined m tally old old 0
  margined_none =
      record {
        inside = zero-le;
        same_length = refl;
        written = λ M sides of e. pairs_none 0 m (margin_at M (division_of sides) false) (margin_at M (division_of sides) true) old room;
      }

  module _ (margins : List ℕ) (j : ℕ) (w : Margined m tally old margins j) where
    pub margined_more : j < m → (x : Letters)
        → ((M : Matrix) (sides : List ℕ) → Tallied M sides tally → j < M.columns → Lettered general M (division_of sides) j x)
        → Margined m tally old (set (set margins j x.margins.first) (m + j) x.margins.second) (j + 1)
    margined_more l x told =
        record {
          inside = omega arith;
          same_length =
              length-set (set margins j x.margins.first) (m + j) x.margins.second
              ∙ length-set margins j x.margins.first
              ∙ w.same_length;
          written = λ M sides of e.
              let d : Division = division_of sides in
              let z : Lettered general M d j x = told M sides of (omega arith) in
              ap₂ (λ (a b : ℕ). set (set margins a x.margins.first) (b + j) x.margins.second) (sym (zero-add j)) (sym (zero-add m))
              ∙ ap (λ (o : List ℕ). set (set o (0 + j) x.margins.first) (0 + m + j) x.margins.second) (w.written M sides of e)
              ∙ ap₂ (λ (a b : ℕ). set (set (margins_to M d m j old) (0 + j) a) (0 + m + j) b) z.first_margin_is z.second_margin_is
              ∙ pairs_more 0 m (margin_at M d false) (margin_at M d true) old room j l;
        }

    -- all columns done
    pub margined_all : m ≤ j → (M : Matrix) (sides : List ℕ) → Tallied M sides tally → m ≡ M.columns → margins ≡ over (margins_of M (division_of sides)) old
    unfolding margins_of side_margins
    margined_all l M sides of e =
        let d : Division = division_of sides in
        let a : List ℕ = side_margins M d false in
        let b : List ℕ = side_margins M d true in
        let all : j ≡ M.columns = omega (arith, w.inside) in
        let size : m ≡ length a = e ∙ sym (length-side-margins M d false) in
        w.written M sides of e
        ∙ ap (λ (i : ℕ). margins_to M d m i old) all
        ∙ ap (λ (i : ℕ). laid (0 + i) b (laid 0 a old)) size
        ∙ laid_join 0 a b old (omega arith)
        ∙ laid_front (a ++ b) old

-- the sides as a part of the output
pub sides-margins : (M : Matrix) (n : ℕ) (out old margins : List ℕ) → margins ≡ over (margins_of M (division_of (take (17 + n - 17) (drop 17 out)))) old
    → margins ≡ over (margins_of M (division_in n out)) old
sides-margins M n out old margins e =
    e ∙ ap (λ (k : ℕ). over (margins_of M (division_of (take k (drop 17 out)))) old) (let z : 17 + n - 17 ≡ n = omega arith in z)
