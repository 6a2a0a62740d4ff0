-- How many of the first numbers pass a test, as a loop counts them.
use Prim.Native.Nat.{ℕ, ◌+◌, ◌-◌, ◌≤◌, ◌<◌}
use mir.Val.{bool_byte}
use mathlib.Core.Bool.{Bool, true, false}
use mathlib.Core.Path.{◌≡◌, refl, ap, ◌∙◌}
use native.Mathlib.Nat.{le_of_suc-le-suc}
use native.Mathlib.Numerals.{add-one}
use native.Mathlib.Omega.{arith}
use Rattle.meaning.specs.Numbers.{bit, sum_to}
use Rattle.meaning.proofs.Totals.{sum_bound, sum_split}
use Rattle.fold.specs.Turn.{shared_to}

-- a test as a number, as `usize::from` gives it
pub byte_bit : (b : Bool) → bool_byte b ≡ bit b
byte_bit true = refl
byte_bit false = refl

pub bit_lt : (s : Bool) → bit s < 2
bit_lt true = omega arith
bit_lt false = omega arith

module _ (test : ℕ → Bool) where
  pub count_none : shared_to test 0 ≡ 0
  unfolding sum_to
  count_none = refl

  pub count_more : (i : ℕ) → shared_to test (i + 1) ≡ shared_to test i + bit (test i)
  unfolding sum_to
  count_more i = rw add-one refl

  pub count_yes : (i : ℕ) → test i ≡ true → shared_to test (i + 1) ≡ shared_to test i + 1
  count_yes i t = count_more i ∙ ap (λ (b : Bool). shared_to test i + bit b) t

  pub count_no : (i : ℕ) → test i ≡ false → shared_to test (i + 1) ≡ shared_to test i
  count_no i t = omega (arith, count_more i, ap bit t)

  pub count_le : (i : ℕ) → shared_to test i ≤ i
  count_le i = omega (arith, sum_bound i 1 {f = λ q. bit (test q)} (λ q l. le_of_suc-le-suc (bit_lt (test q))))

  pub count_lt : (i p : ℕ) → i < p → test i ≡ true → shared_to test i < shared_to test p
  count_lt i p l t =
      let e : p ≡ (i + 1) + (p - (i + 1)) = omega arith in
      omega (arith, ap (shared_to test) e, sum_split (i + 1) (p - (i + 1)) (λ q. bit (test q)), count_more i, ap bit t)
