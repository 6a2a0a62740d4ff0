-- The classes' least entries, row by row.
use Prim.Native.Nat.{ℕ, zero, suc, ◌+◌, ◌-◌, ◌*◌, ◌≤◌, ◌<◌, min}
use lib.ListN.{length, get_or, take, drop, get_or-append}
use lib.Seq.{get_or-take, drop-drop, drop-append_seam}
use mathlib.Core.List.{List, ◌++◌}
use mathlib.Core.Logic.{◌≢◌}
use mathlib.Core.Path.{◌≡◌, refl, sym, ap, ap₂, ◌∙◌, subst}
use native.Mathlib.Nat.{lt_of_mul-lt-mul_right, le_antisymm, le_of_mul-le-mul_right, mul_comm}
use native.Mathlib.Omega.{arith}
use Rattle.std.proofs.lemmas.List.{get_or-drop, length-append}
use Rattle.meaning.specs.Numbers.{min_to}
use Rattle.meaning.specs.Rule.{least_at}

-- the rows before `base` are carried
pub record Carried (part : List ℕ) (classes base : ℕ) (taken : List ℕ) : Type 0 where
  pub rows : ℕ
  pub some : 0 < rows
  pub base_is : base ≡ rows * classes
  pub lows : (f : ℕ) → f < classes → get_or taken f 0 ≡ least_at classes rows part f

-- one row at least
pub first_fits : (classes rows n : ℕ) → 0 < n → classes * rows ≡ n → classes ≤ n
first_fits classes zero n h e = absurd (let z : classes * 0 ≡ n = e in omega arith)
first_fits classes (suc rows) n h e = omega arith

-- not one row only: two at least
pub second_fits : (classes rows n : ℕ) → 0 < n → classes * rows ≡ n → n ≢ classes → 2 * classes ≤ n
second_fits classes zero n h e ne = absurd (let z : classes * 0 ≡ n = e in omega arith)
second_fits classes (suc zero) n h e ne = absurd (let z : classes * 1 ≡ n = e in omega arith)
second_fits classes (suc (suc rows)) n h e ne = omega arith

module _ (part : List ℕ) (classes : ℕ) where
  pub carried_first : (taken : List ℕ) → ((f : ℕ) → f < classes → get_or taken f 0 ≡ get_or part f 0) → Carried part classes classes taken
  unfolding least_at min_to
  carried_first taken h = record { rows = 1; some = omega arith; base_is = omega arith; lows = λ f l. h f l ∙ ap (λ (i : ℕ). get_or part i 0) (first f) }
    where
      first : (f : ℕ) → f ≡ f + 0 * classes
      first f = omega arith

  least_more : (rows base f : ℕ) → 0 < rows → base ≡ rows * classes → min (least_at classes rows part f) (get_or part (base + f) 0) ≡ least_at classes (rows + 1) part f
  unfolding least_at min_to
  least_more zero base f h e = absurd (let z : 0 < 0 = h in omega arith)
  least_more (suc r) base f h e =
      ap₂ (λ (n i : ℕ). min (min_to n (λ i. get_or part (f + i * classes) 0)) (get_or part i 0)) (let z : suc r - 1 ≡ r = omega arith in z) (let z : base + f ≡ f + suc r * classes = omega arith in z)
      ∙ ap (λ (n : ℕ). min_to n (λ i. get_or part (f + i * classes) 0)) (let z : suc r ≡ suc r + 1 - 1 = omega arith in z)

  pub carried_more : (base : ℕ) (old new : List ℕ) → Carried part classes base old
      → ((f : ℕ) → f < classes → get_or new f 0 ≡ min (get_or old f 0) (get_or part (base + f) 0)) → Carried part classes (base + classes) new
  carried_more base old new c h =
      record {
        rows = c.rows + 1;
        some = omega arith;
        base_is = omega (arith, c.base_is);
        lows = λ f l. h f l ∙ ap (λ (x : ℕ). min x (get_or part (base + f) 0)) (c.lows f l) ∙ least_more c.rows base f c.some c.base_is;
      }

  -- no row is left
  pub carried_all : (rows base : ℕ) (taken : List ℕ) → 0 < classes → classes * rows ≡ length part → Carried part classes base taken → base ≤ length part → length part < base + classes
      → (f : ℕ) → f < classes → get_or taken f 0 ≡ least_at classes rows part f
  carried_all rows base taken pos e c a b f l = c.lows f l ∙ ap (λ (n : ℕ). least_at classes n part f) (le_antisymm below above)
    where
      same : rows * classes ≡ length part
      same = mul_comm rows classes ∙ e

      below : c.rows ≤ rows
      below = le_of_mul-le-mul_right (let z : c.rows * classes ≤ rows * classes = omega (arith, c.base_is, same) in z) pos

      above : rows ≤ c.rows
      above = let h : rows < c.rows + 1 = lt_of_mul-lt-mul_right classes (let z : rows * classes < (c.rows + 1) * classes = omega (arith, c.base_is, same) in z) in omega arith

  -- the rows before what is left are carried
  pub record Left (left taken : List ℕ) : Type 0 where
    pub inside : length left ≤ length part
    pub left_is : left ≡ drop (length part - length left) part
    pub carried : Carried part classes (length part - length left) taken

  -- the first two rows at once
  pub left-two : (a b left taken : List ℕ) → a ≡ take classes part → b ≡ take classes (drop classes part) → left ≡ drop classes (drop classes part)
      → length left + 2 * classes ≡ length part
      → ((f : ℕ) → f < classes → get_or taken f 0 ≡ min (get_or a f 0) (get_or b f 0)) → Left left taken
  left-two a b left taken ea eb el n h =
      let base : classes + classes ≡ length part - length left = omega arith in
      record {
        inside = omega arith;
        left_is = el ∙ drop-drop classes classes part ∙ ap (λ (k : ℕ). drop k part) base;
        carried = subst (λ (k : ℕ). Carried part classes k taken) base
            (carried_more classes part taken (carried_first part (λ f l. refl))
            (λ f l. h f l ∙ ap₂ min (ap (λ (x : List ℕ). get_or x f 0) ea ∙ get_or-take classes part f 0 l)
            (ap (λ (x : List ℕ). get_or x f 0) eb ∙ get_or-take classes (drop classes part) f 0 l ∙ get_or-drop classes part f 0)));
      }

  -- one row more
  pub left_more : (left row rest old new : List ℕ) → Left left old → left ≡ row ++ rest → length row ≡ classes
      → ((f : ℕ) → f < classes → get_or new f 0 ≡ min (get_or old f 0) (get_or row f 0)) → Left rest new
  left_more left row rest old new c e n h =
      let many : length left ≡ length row + length rest = ap length e ∙ length-append row rest in
      let inside : length left ≤ length part = c.inside in
      let base : length part - length left + classes ≡ length part - length rest = omega arith in
      let behind : rest ≡ drop classes left = sym (ap₂ (λ (k : ℕ) (x : List ℕ). drop k x) (sym n) e ∙ drop-append_seam row rest) in
      record {
        inside = omega arith;
        left_is = behind ∙ ap (drop classes) c.left_is ∙ drop-drop classes (length part - length left) part ∙ ap (λ (k : ℕ). drop k part) base;
        carried = subst (λ (k : ℕ). Carried part classes k new) base
            (carried_more (length part - length left) old new c.carried
            (λ f l. h f l ∙ ap (min (get_or old f 0)) (in_row f l)));
      }
    where
      in_row : (f : ℕ) → f < classes → get_or row f 0 ≡ get_or part (length part - length left + f) 0
      in_row f l =
          sym (get_or-append row rest 0 f (omega (arith, n)))
          ∙ ap (λ (x : List ℕ). get_or x f 0) (sym e ∙ c.left_is)
          ∙ get_or-drop (length part - length left) part f 0

  -- no row is left
  pub left_none : (rows : ℕ) (left taken : List ℕ) → 0 < classes → classes * rows ≡ length part → Left left taken → length left < classes
      → (f : ℕ) → f < classes → get_or taken f 0 ≡ least_at classes rows part f
  left_none rows left taken pos e c short =
      let inside : length left ≤ length part = c.inside in
      carried_all rows (length part - length left) taken pos e c.carried (omega arith) (omega arith)
