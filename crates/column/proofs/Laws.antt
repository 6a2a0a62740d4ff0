-- The pass: the level taken away, and the zeros behind it.
use Prim.Native.Nat.{ℕ, ◌+◌, ◌-◌, ◌%◌, ◌≤◌, ◌<◌}
use borrow.Author.Tests.{ltb-true, ltb-false}
use lib.Bits.{bit_and, and_mask}
use lib.Dec.{ltb}
use lib.ListN.{length, get_or, replicate, get_or-append}
use lib.Seq.{ext_get_or, get_or-append_right}
use Rattle.std.proofs.lemmas.List.{length-append, length-replicate, get_or-replicate}
use mathlib.Core.Bool.{Bool, true, false, cond}
use mathlib.Core.List.{List, ◌++◌}
use mathlib.Core.Path.{◌≡◌, refl, sym, ap, ap₂, ◌∙◌, subst, fun_ext}
use native.Mathlib.Nat.{le_trans, add-zero, zero-add}
use native.Mathlib.Omega.{arith}
use Rattle.meaning.specs.Numbers.{run}
use Rattle.meaning.specs.Active.{used}
use Rattle.meaning.proofs.Lists.{length_run, get_or-run}
use Rattle.meaning.specs.Division.{Side}
use Rattle.meaning.specs.Charge.{Letter, Sums}
use Rattle.meaning.specs.Letters.{mode_of}
use Rattle.fold.specs.Turn.{side_at}
use Rattle.sums.specs.Sums.{sums_of, array_of, Small, LightPairs, sums_with}
use Rattle.sums.specs.Level.{everywhere, level_of, raised, whole_of}
use Rattle.sums.proofs.Levels.{level_charge, level_small}
use Rattle.column.specs.Pass.{entry_at, passed}
use Rattle.column.specs.Walk.{levelled, level_at, Low}
use Rattle.column.proofs.Moves.{sums_of_array, sum-small, everywhere-small, sums_small, level_same}

-- `x & 1`
pub and_one : (x : ℕ) → bit_and x 1 ≡ x % 2
and_one x = and_mask x 1

pub filled : (charged : Sums → ℕ) (w : List (List ℕ)) (turn taken : List ℕ) (p n : ℕ) (own behind : List ℕ)
    → ((k : ℕ) → k < used p → get_or own k 0 ≡ entry_at charged w turn taken p k)
    → length own ≡ used p → used p ≤ n → behind ≡ replicate (n - used p) 0 → own ++ behind ≡ passed charged w turn taken p n
unfolding passed
filled charged w turn taken p n own behind h e inside z =
    ext_get_or 0 (own ++ behind) (run 0 n rule) (many ∙ sym (length_run 0 n rule))
    (λ k l. go k (omega (arith, many)) (ltb k (used p)) refl ∙ sym (get_or-run 0 n rule k 0 (omega (arith, many)) ∙ ap rule (zero-add k)))
  where
    rule : ℕ → ℕ
    rule k = cond (ltb k (used p)) (entry_at charged w turn taken p k) 0

    many : length (own ++ behind) ≡ n
    many = rw z (simp (length-append, length-replicate) (omega arith))

    go : (k : ℕ) → k < n → (b : Bool) → ltb k (used p) ≡ b → get_or (own ++ behind) k 0 ≡ cond b (entry_at charged w turn taken p k) 0
    go k in_part true t = let l : k < used p = ltb-true k (used p) t in get_or-append own behind 0 k (omega arith) ∙ h k l
    go k in_part false t =
        let l : used p ≤ k = ltb-false k (used p) t in
        get_or-append_right own behind k 0 (omega arith) ∙ ap (λ (x : List ℕ). get_or x (k - length own) 0) z ∙ get_or-replicate (n - used p) (k - length own) 0 0 (omega arith)

-- an entry on raised sums is the mode's entry and the whole level
entry-raised : (b : Bool) (w : List (List ℕ)) (turn taken : List ℕ) (p k : ℕ)
    → entry_at (levelled (level_at b w p)) w turn taken p k ≡ entry_at (mode_of b).charged w turn taken p k + whole_of (level_at b w p)
unfolding entry_at
entry-raised b w turn taken p k =
    let x : Sums = sums_with w p (side_at k) in
    let is : level_at b w p ≡ level_of b x = level_same w p (λ i. false) (side_at k) b in
    let charge : levelled (level_at b w p) x ≡ (mode_of b).charged x + whole_of (level_at b w p) =
    ap (λ (o : List ℕ). levelled o x) is ∙ level_charge b x ∙ ap (λ (o : List ℕ). (mode_of b).charged x + whole_of o) (sym is) in
    omega (arith, charge)

-- a column's level is low, and what the walk starts from is small
module _ (b : Bool) (w : List (List ℕ)) (p : ℕ) where
  module _ (few : p ≤ 12) (light : LightPairs w p 65535) where
    pub level_low : Low (level_at b w p)
    level_low = level_small b (sums_with w p (λ i. false)) 1000000 (under false) (under true)
      where
        under : (l : Letter) → everywhere (sums_with w p (λ i. false)) l ≤ 1000000
        under l = le_trans (everywhere-small w p few light (λ i. false) l) (omega arith)

    module _ (s : List (List ℕ)) (is : s ≡ array_of (sums_with w p (λ i. false))) where
      start_sums : sums_of s ≡ sums_with w p (λ i. false)
      start_sums = ap sums_of is ∙ sums_of_array (sums_with w p (λ i. false))

      pub start_small : Small (sums_of s)
      start_small t l = subst (λ (x : Sums). x t l ≤ 1000000000) (sym start_sums) (le_trans (sum-small w p few light (λ i. false) t l) (omega arith))

      pub level_is : b ≡ true → (level : List ℕ) → level ≡ level_of true (sums_of s) → level ≡ level_at b w p
      level_is on level e = e ∙ ap₂ level_of (sym on) start_sums

      pub raised-small : (level : List ℕ) → level ≡ level_at b w p → Small (raised (sums_of s) level)
      raised-small level e t l =
          subst (λ (x : Sums). raised x level t l ≤ 1000000000) (sym start_sums)
          (sums_small w p few light (λ i. false) level (subst Low (sym e) level_low) t l)

      -- in the all-heterozygous mode the level is added
      pub begin_raised : (r : List (List ℕ)) (level : List ℕ) → level ≡ level_at b w p → r ≡ array_of (raised (sums_of s) level)
          → r ≡ array_of (raised (sums_with w p (λ i. false)) (level_at b w p))
      begin_raised r level e h = h ∙ ap₂ (λ (x : Sums) (o : List ℕ). array_of (raised x o)) start_sums e

      -- in the general one nothing is
      pub begin_own : b ≡ false → s ≡ array_of (raised (sums_with w p (λ i. false)) (level_at b w p))
      begin_own off =
          is
          ∙ ap array_of (fun_ext (λ t. fun_ext (λ l. sym (none t l))))
          ∙ ap (λ (c : Bool). array_of (raised (sums_with w p (λ i. false)) (level_at c w p))) (sym off)
        where
          none : (t : Side) (l : Letter) → raised (sums_with w p (λ i. false)) (level_at false w p) t l ≡ sums_with w p (λ i. false) t l
          none t false = add-zero (sums_with w p (λ i. false) t false)
          none t true = add-zero (sums_with w p (λ i. false) t true)

  pub whole_none : b ≡ false → 0 ≡ whole_of (level_at b w p)
  whole_none off = ap (λ (c : Bool). whole_of (level_at c w p)) (sym off)

  -- each entry that is written has the level in it, and is the mode's without it
  module _ (turn taken mid : List ℕ) (written : (k : ℕ) → k < used p → get_or mid k 0 ≡ entry_at (levelled (level_at b w p)) w turn taken p k) where
    module _ (n whole : ℕ) (many : n ≡ used p) (is : whole ≡ whole_of (level_at b w p)) where
      pub level_inside : (k : ℕ) → k < n → whole ≤ get_or mid k 0
      level_inside k l = omega (arith, is, written k (subst (λ (x : ℕ). k < x) many l), entry-raised b w turn taken p k)

      pub level_away : (last : List ℕ) → ((k : ℕ) → k < n → get_or last k 0 ≡ get_or mid k 0 - whole)
          → (k : ℕ) → k < used p → get_or last k 0 ≡ entry_at (mode_of b).charged w turn taken p k
      level_away last away k l = omega (arith, is, written k l, away k (subst (λ (x : ℕ). k < x) (sym many) l), entry-raised b w turn taken p k)
