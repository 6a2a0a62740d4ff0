-- A side's letter, what is reported of it, its margin, and its entries against a letter.
use Prim.Native.Nat.{ℕ, ◌-◌, ◌/◌, ◌%◌, ◌≤◌, ◌<◌}
use borrow.Author.Tests.{ltb-true, ltb-false, eqb-false}
use lib.Dec.{ltb, eqb}
use lib.ListN.{get_or}
use mathlib.Core.Bool.{Bool, true, false, cond, not, false≢true}
use mathlib.Core.List.{List, [], ◌∷◌}
use mathlib.Core.Logic.{◌≢◌}
use mathlib.Core.Path.{◌≡◌, refl, sym, ap, ap₂, ◌∙◌, fun_ext}
use native.Mathlib.Omega.{arith}
use Rattle.meaning.specs.Numbers.{bit}
use Rattle.meaning.specs.Division.{Side}
use Rattle.meaning.specs.Charge.{Letter, Sums}
use Rattle.meaning.specs.Letters.{letter_of, crossed, crossed_letter, crossed_choice, mode_of, tied, reported}
use Rattle.meaning.specs.Margins.{distance, margin_of}
use Rattle.sums.specs.Sums.{sums_of, array_of, Small, pair_at}
use Rattle.tally.specs.Tally.{unit}

-- what the branch on a letter gives of a side's pair
pub against_zero : (n : List ℕ) (x : ℕ) → x ≡ 0 → (l : Letter) → x ≡ bit l → get_or n 0 0 ≡ pair_at n l
against_zero n x z false e = refl
against_zero n x z true e = absurd (omega arith)

pub against_one : (n : List ℕ) (x : ℕ) → x ≢ 0 → (l : Letter) → x ≡ bit l → get_or n 1 0 ≡ pair_at n l
against_one n x z false e = absurd (z e)
against_one n x z true e = refl

-- no side has more entries against its letter
pub against-few : (x y a r : ℕ) (t : Letter) → a ≡ bit t → ((l : Letter) → a ≡ bit l → r ≡ pair_at (x / unit ∷ y / unit ∷ []) l)
    → x < 4294967296 → y < 4294967296 → r ≤ 4095
against-few x y a r t e h lx ly = go t (h t e)
  where
    go : (t : Letter) → r ≡ pair_at (x / unit ∷ y / unit ∷ []) t → r ≤ 4095
    go false z = omega arith
    go true z = omega arith

-- an array of the four sums has them
array_sums : (s : List (List ℕ)) (w : Sums) → s ≡ array_of w → (t : Side) (l : Letter) → sums_of s t l ≡ w t l
array_sums s w e t l = ap (λ (x : List (List ℕ)). sums_of x t l) e ∙ go t l
  where
    go : (t : Side) (l : Letter) → sums_of (array_of w) t l ≡ w t l
    go false false = refl
    go false true = refl
    go true false = refl
    go true true = refl

-- the choices of a mode, by an array of the four sums
pub choices_of : (b : Bool) (s c : List (List ℕ)) (w : Sums) → s ≡ array_of w → c ≡ array_of ((mode_of b).choice (sums_of s)) → c ≡ array_of ((mode_of b).choice w)
choices_of b s c w is e = e ∙ ap (λ (x : Sums). array_of ((mode_of b).choice x)) (fun_ext (λ t. fun_ext (λ l. array_sums s w is t l)))

-- both choices of the all-heterozygous mode
pub choices_crossed : (b : Bool) (w : Sums) (x y : ℕ) → b ≡ true → x ≡ crossed w false → y ≡ crossed w true
    → (x ∷ y ∷ []) ∷ (y ∷ x ∷ []) ∷ [] ≡ array_of ((mode_of b).choice w)
unfolding crossed_choice
choices_crossed b w x y e ex ey =
    ap₂ (λ (p q : ℕ). (p ∷ q ∷ []) ∷ (q ∷ p ∷ []) ∷ []) ex ey ∙ ap (λ (t : Bool). array_of ((mode_of t).choice w)) (sym e)

-- and of the general one
pub choices_own : (b : Bool) (w : Sums) → b ≡ false → array_of w ≡ array_of ((mode_of b).choice w)
choices_own b w e = ap (λ (t : Bool). array_of ((mode_of t).choice w)) (sym e)

-- a side's letter is 0 if the first of its two sums is smaller, but that of side 1 is the other one where the haplotypes differ
module _ (c : List (List ℕ)) (w : Sums) where
  pub letters_crossed : (b : Bool) → b ≡ true → (a : ℕ) → a ≡ bit (not (ltb (sums_of c false false) (sums_of c false true))) → c ≡ array_of ((mode_of b).choice w)
      → a ∷ (1 - a) ∷ [] ≡ bit ((mode_of b).letter w false) ∷ bit ((mode_of b).letter w true) ∷ []
  unfolding crossed_letter crossed_choice
  letters_crossed false e a h is = absurd (false≢true e)
  letters_crossed true e a h is =
      let z : a ≡ bit (not (ltb (crossed w false) (crossed w true))) =
      h ∙ ap₂ (λ (x y : ℕ). bit (not (ltb x y))) (array_sums c (crossed_choice w) is false false) (array_sums c (crossed_choice w) is false true) in
      ap (λ (x : ℕ). x ∷ (1 - x) ∷ []) z ∙ go (ltb (crossed w false) (crossed w true))
    where
      go : (t : Bool) → bit (not t) ∷ (1 - bit (not t)) ∷ [] ≡ bit (not t) ∷ bit t ∷ []
      go true = refl
      go false = refl

  pub letters_own : (b : Bool) → b ≡ false → (x y : ℕ) → x ≡ bit (not (ltb (sums_of c false false) (sums_of c false true)))
      → y ≡ bit (not (ltb (sums_of c true false) (sums_of c true true))) → c ≡ array_of ((mode_of b).choice w)
      → x ∷ y ∷ [] ≡ bit ((mode_of b).letter w false) ∷ bit ((mode_of b).letter w true) ∷ []
  unfolding letter_of
  letters_own true e x y hx hy is = absurd (false≢true (sym e))
  letters_own false e x y hx hy is =
      ap₂ (λ (p q : ℕ). p ∷ q ∷ [])
      (hx ∙ ap₂ (λ (p q : ℕ). bit (not (ltb p q))) (array_sums c w is false false) (array_sums c w is false true))
      (hy ∙ ap₂ (λ (p q : ℕ). bit (not (ltb p q))) (array_sums c w is true false) (array_sums c w is true true))

  -- what is reported of a side
  pub reported_chosen : (b : Bool) → c ≡ array_of ((mode_of b).choice w) → (t : Side) (a : ℕ)
      → a ≡ cond (eqb (sums_of c t false) (sums_of c t true)) 2 (bit (not (ltb (sums_of c t false) (sums_of c t true)))) → a ≡ reported (mode_of b) w t
  unfolding reported tied letter_of crossed_letter crossed_choice
  reported_chosen b is t a h =
      h
      ∙ ap₂ (λ (x y : ℕ). cond (eqb x y) 2 (bit (not (ltb x y)))) (array_sums c ((mode_of b).choice w) is t false) (array_sums c ((mode_of b).choice w) is t true)
      ∙ chosen b t
    where
      -- of two sums that differ, one is less
      less : (x y : ℕ) → cond (eqb x y) 2 (bit (not (ltb x y))) ≡ cond (eqb x y) 2 (bit (ltb y x))
      less x y = go (eqb x y) refl
        where
          side : (u v : Bool) → ltb x y ≡ u → ltb y x ≡ v → (x ≡ y → ⊥) → bit (not u) ≡ bit v
          side true true p q ne = absurd (omega (arith, ltb-true x y p, ltb-true y x q))
          side true false p q ne = refl
          side false true p q ne = refl
          side false false p q ne = absurd (ne (let a = ltb-false x y p in let b = ltb-false y x q in omega arith))

          go : (e : Bool) → eqb x y ≡ e → cond e 2 (bit (not (ltb x y))) ≡ cond e 2 (bit (ltb y x))
          go true e = refl
          go false e = side (ltb x y) (ltb y x) refl refl (eqb-false x y e)

      chosen : (b : Bool) (t : Side) → cond (eqb ((mode_of b).choice w t false) ((mode_of b).choice w t true)) 2 (bit (not (ltb ((mode_of b).choice w t false) ((mode_of b).choice w t true))))
          ≡ reported (mode_of b) w t
      chosen false t = refl
      chosen true false = refl
      chosen true true = less (crossed w true) (crossed w false)

  -- and its margin
  pub margin_chosen : (b : Bool) → c ≡ array_of ((mode_of b).choice w) → (t : Side) (a : ℕ)
      → a ≡ distance (sums_of c t false) (sums_of c t true) → a ≡ margin_of (mode_of b) w t
  unfolding margin_of
  margin_chosen b is t a h = h ∙ ap₂ distance (array_sums c ((mode_of b).choice w) is t false) (array_sums c ((mode_of b).choice w) is t true)

-- sums that are read off a tally are small
pub read_small : (a b c d : ℕ) → Small (sums_of ((a % unit ∷ b % unit ∷ []) ∷ (c % unit ∷ d % unit ∷ []) ∷ []))
read_small a b c d false false = omega arith
read_small a b c d false true = omega arith
read_small a b c d true false = omega arith
read_small a b c d true true = omega arith
