-- Numbers in decimal: their digits from the last one, and how many. Assumes nothing.
use Prim.Native.Nat.{ℕ, zero, suc, ◌+◌, ◌/◌, ◌%◌, ◌^◌, ◌≤◌, ◌<◌}
use mathlib.Core.Path.{◌≡◌, ap, ◌∙◌}
use mathlib.Core.Bool.{Bool, true, false, cond}
use mathlib.Core.List.{List, [], ◌∷◌, ◌++◌}
use native.Mathlib.Omega.{arith}
use borrow.Author.Tests.{lt-ltb, le-ltb}
use lib.Dec.{ltb}
use lib.ListN.{length, length-append}
use Rattle.lines.specs.Line.{digits, decimal}

cond-length : (t : Bool) (a b : List ℕ) (n : ℕ) → length a ≤ n → length b ≤ n → length (cond t a b) ≤ n
cond-length true a b n h k = h
cond-length false a b n h k = k

digits-length : (f x : ℕ) → length (digits f x) ≤ f
unfolding digits
digits-length zero x = omega arith
digits-length (suc f) x =
    let l = length-append (digits f (x / 10)) ((48 + x % 10) ∷ []) in
    cond-length (ltb x 10) _ _ (suc f) (omega arith) (omega (arith, l, digits-length f (x / 10)))

-- where f + 1 digits are enough, more fuel changes nothing
digits_enough : (f x : ℕ) → x < 10 ^ suc f → digits (suc (suc f)) x ≡ digits (suc f) x
unfolding digits
digits_enough zero x h = rw (lt-ltb x 10 (omega arith))
digits_enough (suc f) x h = rw (digits_enough f (x / 10) (omega arith))

pub decimal_one : (x : ℕ) → x < 10 → decimal x ≡ (48 + x) ∷ []
unfolding digits
decimal_one x h = rw (lt-ltb x 10 h)

pub decimal_more : (x : ℕ) → 10 ≤ x → x < 2 ^ 32 → decimal x ≡ decimal (x / 10) ++ ((48 + x % 10) ∷ [])
unfolding digits
decimal_more x h l = rw (digits_enough 8 (x / 10) (omega arith)) (last 9)
  where
    last : (f : ℕ) → digits (suc f) x ≡ digits f (x / 10) ++ ((48 + x % 10) ∷ [])
    last f = rw (le-ltb x 10 h)

-- at most nine digits stand before the last
pub shorter : (x : ℕ) → 10 ≤ x → x < 2 ^ 32 → length (decimal (x / 10)) ≤ 9
shorter x h l =
    let e = ap length (decimal_more x h l) ∙ length-append (decimal (x / 10)) ((48 + x % 10) ∷ []) in
    omega (arith, e, digits-length 10 x)
