-- Digits turned: an index of reads changes by one digit where one read changes its side, and by all where its first read does.
use Prim.Native.Nat.{ℕ, suc, ◌+◌, ◌-◌, ◌*◌, ◌/◌, ◌%◌, ◌^◌, ◌<◌}
use borrow.Author.Tests.{ne_eqb}
use lib.Bits.{bit_xor, differ, xor_step, xor_zero_r, xor_add_and, and_mask}
use lib.ListN.{length}
use mathlib.Core.Bool.{Bool, true, false, cond, not, not-not}
use mathlib.Core.List.{List, [], ◌∷◌, ◌++◌}
use mathlib.Core.Logic.{◌≢◌}
use mathlib.Core.Path.{◌≡◌, refl, sym, ap, ◌∙◌, ap₂}
use native.Mathlib.Nat.{mod-eq_of_lt}
use native.Mathlib.Omega.{arith}
use Rattle.meaning.specs.Numbers.{bit}
use Rattle.meaning.specs.Division.{Division}
use Rattle.meaning.specs.Rule.{other, folded, index_of, index_at}
use Rattle.meaning.proofs.Lists.{Distinct}
use Rattle.meaning.proofs.Index.{index_lt, index_ext, used_suc}
use Rattle.fold.proofs.Count.{bit_lt}
use Rattle.fold.specs.Turn.{mask_of}
use Rattle.fold.proofs.Places.{has_middle, ne_of_has}

-- bitwise, the lowest digit by itself
xor_low : (a b x y : ℕ) → a < 2 → b < 2 → bit_xor (a + 2 * x) (b + 2 * y) ≡ differ a b + 2 * bit_xor x y
xor_low a b x y l m =
    xor_step (a + 2 * x) (b + 2 * y)
    ∙ ap₂ (λ (u v : ℕ). u * 2 + v) (ap₂ bit_xor (half a x l) (half b y m)) (ap₂ differ (odd a x l) (odd b y m))
    ∙ omega arith
  where
    half : (a x : ℕ) → a < 2 → (a + 2 * x) / 2 ≡ x
    half a x l = omega arith

    odd : (a x : ℕ) → a < 2 → (a + 2 * x) % 2 ≡ a
    odd a x l = omega arith

-- one digit turned
xor_one : (s : Bool) (x : ℕ) → bit_xor (bit s + 2 * x) 1 ≡ bit (not s) + 2 * x
xor_one s x =
    xor_low (bit s) 1 x 0 (bit_lt s) (omega arith) ∙ ap₂ (λ (u v : ℕ). u + 2 * v) (turned s) (xor_zero_r x)
  where
    turned : (s : Bool) → differ (bit s) 1 ≡ bit (not s)
    turned true = refl
    turned false = refl

xor_two : (s : Bool) (x y : ℕ) → bit_xor (bit s + 2 * x) (2 * y) ≡ bit s + 2 * bit_xor x y
xor_two s x y = ap (bit_xor (bit s + 2 * x)) (none y) ∙ xor_low (bit s) 0 x y (bit_lt s) (omega arith) ∙ ap (λ (u : ℕ). u + 2 * bit_xor x y) (same s)
  where
    none : (y : ℕ) → 2 * y ≡ 0 + 2 * y
    none y = omega arith

    same : (s : Bool) → differ (bit s) 0 ≡ bit s
    same true = refl
    same false = refl

-- all digits turned
xor_all : (n x : ℕ) → x < 2 ^ n → bit_xor x (2 ^ n - 1) ≡ 2 ^ n - 1 - x
xor_all n x l = omega (arith, xor_add_and x (2 ^ n - 1), and_mask x n ∙ mod-eq_of_lt l)

-- the index of the exchanged sides has every digit turned
index-other : (rs : List ℕ) (d : Division) → index_of rs (other d) ≡ bit_xor (index_of rs d) (2 ^ length rs - 1)
index-other rs d = sum rs ∙ sym (xor_all (length rs) (index_of rs d) (index_lt rs d))
  where
    both : (s : Bool) → bit (not s) + bit s ≡ 1
    both true = refl
    both false = refl

    sum : (rs : List ℕ) → index_of rs (other d) ≡ 2 ^ length rs - 1 - index_of rs d
    sum [] = refl
    sum (r ∷ rs) = more (length rs) (bit (not (d r))) (bit (d r)) (index_of rs (other d)) (index_of rs d) (both (d r)) (index_lt rs d) (sum rs)
      where
        more : (n a b x y : ℕ) → a + b ≡ 1 → y < 2 ^ n → x ≡ 2 ^ n - 1 - y → a + 2 * x ≡ 2 ^ suc n - 1 - (b + 2 * y)
        more n a b x y e l h = omega arith

-- two divisions that differ at one read
pub record Turned (r : ℕ) (d e : Division) : Type 0 where
  pub same : (q : ℕ) → q ≢ r → e q ≡ d q
  pub turned : e r ≡ not (d r)

cond_turned : (r : ℕ) (s t : Bool) (d e : Division) → Turned r d e → t ≡ s → Turned r (cond s (other d) d) (cond t (other e) e)
cond_turned r true t d e h p = rw p (record { same = λ q n. ap not (h.same q n); turned = ap not h.turned })
cond_turned r false t d e h p = rw p h

-- then one digit is turned
index_turned : (r : ℕ) (xs ys : List ℕ) (d e : Division) → Turned r d e → Distinct (xs ++ (r ∷ ys)) → index_of (xs ++ (r ∷ ys)) e ≡ bit_xor (index_of (xs ++ (r ∷ ys)) d) (2 ^ length xs)
index_turned r [] ys d e h u =
    ap₂ (λ (s : Bool) (n : ℕ). bit s + 2 * n) h.turned (index_ext ys e d (λ q m. h.same q (ne_of_has q r ys m u.0)))
    ∙ sym (xor_one (d r) (index_of ys d))
index_turned r (x ∷ xs) ys d e h u =
    ap₂ (λ (s : Bool) (n : ℕ). bit s + 2 * n) (h.same x (λ p. ne_of_has r x (xs ++ (r ∷ ys)) (has_middle r xs ys) u.0 (sym p))) (index_turned r xs ys d e h u.1)
    ∙ sym (xor_two (d x) (index_of (xs ++ (r ∷ ys)) d) (2 ^ length xs))
    ∙ ap (λ (m : ℕ). bit_xor (bit (d x) + 2 * index_of (xs ++ (r ∷ ys)) d) m) (double (length xs))
  where
    double : (n : ℕ) → 2 * 2 ^ n ≡ 2 ^ suc n
    double n = omega arith

-- and of an index that has the first read on side 0 all of them, if it is the first
pub index_at_turned : (r : ℕ) (xs ys : List ℕ) (d e : Division) → Turned r d e → Distinct (xs ++ (r ∷ ys))
    → index_at (xs ++ (r ∷ ys)) e ≡ bit_xor (index_at (xs ++ (r ∷ ys)) d) (mask_of (length xs) (length (xs ++ (r ∷ ys))))
index_at_turned r [] ys d e h u =
    index_ext ys (cond (e r) (other e) e) (other (folded (r ∷ ys) d)) (λ q m. exchanged (d r) (e r) q h.turned (h.same q (ne_of_has q r ys m u.0)))
    ∙ index-other ys (folded (r ∷ ys) d)
    ∙ ap (λ (n : ℕ). bit_xor (index_at (r ∷ ys) d) (n - 1)) (sym (used_suc (length ys)))
  where
    exchanged : (s t : Bool) (q : ℕ) → t ≡ not s → e q ≡ d q → cond t (other e) e q ≡ not (cond s (other d) d q)
    exchanged true t q p k = rw p (k ∙ sym (not-not (d q)))
    exchanged false t q p k = rw p (ap not k)
index_at_turned r (x ∷ xs) ys d e h u =
    index_turned r xs ys (folded zs d) (folded zs e)
    (cond_turned r (d x) (e x) d e h (h.same x (λ p. ne_of_has r x (xs ++ (r ∷ ys)) (has_middle r xs ys) u.0 (sym p))))
    u.1
    ∙ ap (bit_xor (index_at zs d)) (mask (length xs) (length zs))
  where
    zs : List ℕ
    zs = x ∷ (xs ++ (r ∷ ys))

    mask : (n s : ℕ) → 2 ^ n ≡ mask_of (suc n) s
    mask n s = rw (ne_eqb (suc n) 0 (λ p. omega arith)) (ap (λ (i : ℕ). 2 ^ i) (let z : n ≡ suc n - 1 = omega arith in z))
