-- A test that passes nowhere.
use Prim.Native.Nat.{ℕ, zero, suc, ◌+◌, ◌<◌}
use mathlib.Core.Bool.{Bool, false, ◌||◌, true≢false}
use mathlib.Core.Path.{◌≡◌, refl, sym, ap₂, ◌∙◌, subst}
use native.Mathlib.Numerals.{add-one}
use native.Mathlib.Omega.{arith}
use Rattle.meaning.specs.Numbers.{any_to}
use Rattle.meaning.proofs.Lists.{any_at, not_both}

pub none_at : (n : ℕ) (f : ℕ → Bool) → any_to n f ≡ false → (i : ℕ) → i < n → f i ≡ false
none_at n f e i l = not_both (f i) (λ h. true≢false (sym (any_at n f i l h) ∙ e))

pub none_of : (n : ℕ) (f : ℕ → Bool) → ((i : ℕ) → i < n → f i ≡ false) → any_to n f ≡ false
unfolding any_to
none_of zero f h = refl
none_of (suc n) f h = ap₂ ◌||◌ (none_of n f (λ i l. h i (omega arith))) (h n (omega arith))

pub none_more : (n : ℕ) (f : ℕ → Bool) → any_to n f ≡ false → f n ≡ false → any_to (n + 1) f ≡ false
unfolding any_to
none_more n f p q = subst (λ (k : ℕ). any_to k f ≡ false) (sym (add-one n)) (ap₂ ◌||◌ p q)
