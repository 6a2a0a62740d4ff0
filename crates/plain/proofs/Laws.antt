-- Shifts of 1, and a store into a list.
use Prim.Native.Nat.{ℕ, ◌*◌, ◌%◌, ◌^◌, ◌<◌}
use borrow.Author.Tests.{eqb-true, eqb-false}
use lib.Dec.{eqb}
use lib.ListN.{length, get_or, set}
use lib.Pow.{shl_exact}
use lib.Seq.{get_or-set_same, get_or-set_other}
use mathlib.Core.Bool.{Bool, true, false}
use mathlib.Core.List.{List}
use mathlib.Core.Logic.{◌≢◌}
use mathlib.Core.Path.{◌≡◌, refl, ◌∙◌}
use native.Mathlib.Nat.{one-mul}
use native.Mathlib.Omega.{arith}

pub one_shl : (n : ℕ) → n < 64 → 1 * 2 ^ n % 2 ^ 64 ≡ 2 ^ n
one_shl n h = shl_exact {a = 1} 1 n 64 (omega arith) (omega arith) ∙ one-mul (2 ^ n)

-- a store at k, where the list is g's elsewhere
pub stored_at : (l : List ℕ) (k v : ℕ) (g : ℕ → ℕ) → k < length l → v ≡ g k → (j : ℕ) → (j ≢ k → get_or l j 0 ≡ g j) → get_or (set l k v) j 0 ≡ g j
stored_at l k v g lt e j h = go (eqb j k) refl
  where
    go : (b : Bool) → eqb j k ≡ b → get_or (set l k v) j 0 ≡ g j
    go true t = let z : j ≡ k = eqb-true j k t in rw z (get_or-set_same l k v 0 lt ∙ e)
    go false t = let ne : j ≢ k = eqb-false j k t in get_or-set_other l k j v 0 ne ∙ h ne
