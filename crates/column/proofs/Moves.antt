-- The four sums from pairs: what they depend on, how they change when one read changes side, and how large they get.
use Prim.Native.Nat.{ℕ, ◌+◌, ◌-◌, ◌*◌, ◌/◌, ◌≤◌, ◌<◌}
use borrow.Author.Tests.{eq-eqb, ne_eqb}
use mathlib.Core.Bool.{Bool, true, false, cond, not, beq}
use mathlib.Core.List.{List, [], ◌∷◌}
use mathlib.Core.Logic.{◌≢◌}
use mathlib.Core.Path.{◌≡◌, refl, sym, ap, ap₂, ◌∙◌, fun_ext}
use native.Mathlib.Nat.{le_trans, le_of_eq, mul-le-mul_right}
use native.Mathlib.Omega.{arith}
use Rattle.meaning.specs.Numbers.{sum_to}
use Rattle.meaning.specs.Division.{Side, put}
use Rattle.meaning.specs.Charge.{Letter, Sums, charge_of}
use Rattle.meaning.proofs.Totals.{sum_ext, sum_add, sum_bound, sum_change}
use Rattle.sums.specs.Sums.{sums_of, array_of, Small, pair_at, weight_of, LightPairs, sums_with, moved_sums, Movable}
use Rattle.sums.specs.Level.{everywhere, level_of, raised}
use Rattle.column.specs.Walk.{Low}

-- an array of four sums has them
pub sums_of_array : (x : Sums) → sums_of (array_of x) ≡ x
sums_of_array x = fun_ext (λ s. fun_ext (λ l. go s l))
  where
    go : (s : Side) (l : Letter) → sums_of (array_of x) s l ≡ x s l
    go false false = refl
    go false true = refl
    go true false = refl
    go true true = refl

module _ (w : List (List ℕ)) (p : ℕ) where
  -- what the i-th read adds to a sum
  share : (ℕ → Side) → Side → Letter → ℕ → ℕ
  share side s l i = cond (beq (side i) s) (weight_of w i l) 0

  -- the sums go by the sides of the first p reads
  pub sums_with_ext : {a b : ℕ → Side} → ((i : ℕ) → i < p → a i ≡ b i) → sums_with w p a ≡ sums_with w p b
  unfolding sums_with
  sums_with_ext h = fun_ext (λ s. fun_ext (λ l. sum_ext p (λ i k. ap (λ (x : Side). cond (beq x s) (weight_of w i l) 0) (h i k))))

  -- one read is on side `from`, then on the other, and every other read stays
  module _ (i : ℕ) (from : Side) (below : i < p) {side turned : ℕ → Side} (was : side i ≡ from) (is : turned i ≡ not from)
      (same : (q : ℕ) → q ≢ i → side q ≡ turned q) where
    change : (s : Side) (l : Letter)
        → sums_with w p side s l + cond (beq (not from) s) (weight_of w i l) 0 ≡ sums_with w p turned s l + cond (beq from s) (weight_of w i l) 0
    unfolding sums_with share
    change s l =
        ap (λ (x : Side). sums_with w p side s l + cond (beq x s) (weight_of w i l) 0) (sym is)
        ∙ sum_change p i {f = share side s l} {g = share turned s l} below (λ q ne. ap (λ (x : Side). cond (beq x s) (weight_of w q l) 0) (same q ne))
        ∙ ap (λ (x : Side). sums_with w p turned s l + cond (beq x s) (weight_of w i l) 0) was

    -- the sums move with it
    pub moved_sums_lem : sums_with w p turned ≡ moved_sums (sums_with w p side) (weight_of w i) from
    moved_sums_lem = fun_ext (λ s. fun_ext (λ l. go from s l (change s l)))
      where
        go : (f s : Side) (l : Letter)
            → sums_with w p side s l + cond (beq (not f) s) (weight_of w i l) 0 ≡ sums_with w p turned s l + cond (beq f s) (weight_of w i l) 0
            → sums_with w p turned s l ≡ cond (beq s f) (sums_with w p side s l - weight_of w i l) (sums_with w p side s l + weight_of w i l)
        go false false l e = omega arith
        go false true l e = omega arith
        go true false l e = omega arith
        go true true l e = omega arith

    -- and none falls below zero
    pub moved_there : (l : Letter) → weight_of w i l ≤ sums_with w p side from l
    moved_there l = go from (change from l)
      where
        go : (f : Side)
            → sums_with w p side f l + cond (beq (not f) f) (weight_of w i l) 0 ≡ sums_with w p turned f l + cond (beq f f) (weight_of w i l) 0
            → weight_of w i l ≤ sums_with w p side f l
        go false e = omega arith
        go true e = omega arith

  -- the same, for the read put on the other side
  module _ (i : ℕ) (from : Side) (below : i < p) (side : ℕ → Side) (was : side i ≡ from) where
    put_here : put i (not from) side i ≡ not from
    put_here = ap (λ (b : Bool). cond b (not from) (side i)) (eq-eqb i i refl)

    put_else : (q : ℕ) → q ≢ i → side q ≡ put i (not from) side q
    put_else q ne = sym (ap (λ (b : Bool). cond b (not from) (side q)) (ne_eqb q i ne))

    pub put_there : (l : Letter) → weight_of w i l ≤ sums_with w p side from l
    put_there = moved_there i from below {side = side} {turned = put i (not from) side} was put_here put_else

  module _ (lim : ℕ) (light : LightPairs w p lim) (side : ℕ → Side) where
    -- two sums, one of each side: at most the limit for each read
    two_with_bound : (l m : Letter) → sums_with w p side false l + sums_with w p side true m ≤ p * lim
    unfolding sums_with share
    two_with_bound l m =
        le_trans (le_of_eq (sym (sum_add p (share side false l) (share side true m))))
        (sum_bound p lim {f = λ i. share side false l i + share side true m i} (λ i k. go (side i) (weight_of w i l) (weight_of w i m) (light i k l) (light i k m)))
      where
        go : (s : Side) (x y : ℕ) → x ≤ lim → y ≤ lim → cond (beq s false) x 0 + cond (beq s true) y 0 ≤ lim
        go false x y hx hy = omega arith
        go true x y hx hy = omega arith

    pub sum_with_bound : (s : Side) (l : Letter) → sums_with w p side s l ≤ p * lim
    sum_with_bound false l = let h = two_with_bound l l in omega arith
    sum_with_bound true l = let h = two_with_bound l l in omega arith

    pub charge_with_bound : (level : List ℕ) (most : ℕ) → ((l : Letter) → pair_at level l ≤ most) → charge_of (raised (sums_with w p side) level) ≤ p * lim + most + most
    unfolding charge_of
    charge_with_bound level most low = let h = two_with_bound false false in let z = low false in omega arith

  -- what a column's pass asks of its sums: that they are small, and that any of its reads can move
  module _ (few : p ≤ 12) (light : LightPairs w p 65535) (side : ℕ → Side) where
    pub sum-small : (s : Side) (l : Letter) → sums_with w p side s l ≤ 786420
    sum-small s l = le_trans (sum_with_bound 65535 light side s l) (mul-le-mul_right 65535 few)

    pub everywhere-small : (l : Letter) → everywhere (sums_with w p side) l ≤ 786420
    everywhere-small l = le_trans (two_with_bound 65535 light side l l) (mul-le-mul_right 65535 few)

    module _ (level : List ℕ) (low : Low level) where
      pub sums_small : Small (raised (sums_with w p side) level)
      sums_small s l = omega (arith, sum-small s l, low l)

      pub charge-small : charge_of (raised (sums_with w p side) level) ≤ 2786420
      charge-small = let h : p * 65535 ≤ 12 * 65535 = mul-le-mul_right 65535 few in omega (arith, charge_with_bound 65535 light side level 1000000 low)

      pub sums_movable : (i : ℕ) (from : Side) → i < p → side i ≡ from → Movable (raised (sums_with w p side) level) (weight_of w i) from
      sums_movable i from below was l =
          let h = sum-small (not from) l in
          let g : weight_of w i l ≤ 65535 = light i below l in
          let z = low l in
          let t = put_there i from below side was l in
          (omega arith, omega arith)

  -- the level does not go by the sides
  everywhere_is : (side : ℕ → Side) (l : Letter) → everywhere (sums_with w p side) l ≡ sum_to p (λ i. weight_of w i l)
  unfolding sums_with share
  everywhere_is side l =
      sym (sum_add p (share side false l) (share side true l)) ∙ sum_ext p (λ i k. go (side i) (weight_of w i l))
    where
      go : (s : Side) (x : ℕ) → cond (beq s false) x 0 + cond (beq s true) x 0 ≡ x
      go false x = omega arith
      go true x = omega arith

  pub level_same : (side other : ℕ → Side) (b : Bool) → level_of b (sums_with w p side) ≡ level_of b (sums_with w p other)
  level_same side other false = refl
  level_same side other true =
      ap₂ (λ (x y : ℕ). (y - x) / 2 ∷ (x - y) / 2 ∷ [])
      (everywhere_is side false ∙ sym (everywhere_is other false)) (everywhere_is side true ∙ sym (everywhere_is other true))

-- a read moves among raised sums as among the sums
pub moved_raised : (x : Sums) (level : List ℕ) (w : Letter → ℕ) (from : Side) → ((l : Letter) → w l ≤ x from l)
    → moved_sums (raised x level) w from ≡ raised (moved_sums x w from) level
moved_raised x level w from there = fun_ext (λ s. fun_ext (λ l. go from s l (there l)))
  where
    go : (f s : Side) (l : Letter) → w l ≤ x f l
        → cond (beq s f) (x s l + pair_at level l - w l) (x s l + pair_at level l + w l) ≡ cond (beq s f) (x s l - w l) (x s l + w l) + pair_at level l
    go false false l h = omega arith
    go false true l h = omega arith
    go true false l h = omega arith
    go true true l h = omega arith
