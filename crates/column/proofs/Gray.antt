-- Gray code order, for any number of digits: each step turns one digit, and every index is visited once.
use Prim.Native.Nat.{ℕ, zero, suc, ◌+◌, ◌*◌, ◌/◌, ◌%◌, ◌^◌, ◌<◌}
use lib.Bits.{bit_xor, differ, xor_zero_r, xor_lt}
use lib.Count.{count_trailing_zeros, under}
use mathlib.Core.Path.{◌≡◌, refl, sym, ap, ap₂, ◌∙◌}
use native.Mathlib.Omega.{arith}
use Rattle.fold.proofs.Steps.{by_digits, odd_lt, differ_lt, differ_twice, xor_half, xor_odd}
use Rattle.column.specs.Walk.{gray}

-- an index by its half and its last digit
gray_half : (n : ℕ) → gray n / 2 ≡ gray (n / 2)
unfolding gray
gray_half n = xor_half n (n / 2)

gray_last : (n : ℕ) → gray n % 2 ≡ differ (n % 2) (n / 2 % 2)
unfolding gray
gray_last n = xor_odd n (n / 2)

pub gray_start : gray 0 ≡ 0
unfolding gray
gray_start = refl

-- an index is another one turned by x where its half and its last digit are
turned_digits : (n m x : ℕ) → gray (m / 2) ≡ bit_xor (gray (n / 2)) (x / 2) → differ (m % 2) (m / 2 % 2) ≡ differ (differ (n % 2) (n / 2 % 2)) (x % 2)
    → gray m ≡ bit_xor (gray n) x
turned_digits n m x h o =
    by_digits (gray m) (bit_xor (gray n) x)
    (gray_half m ∙ h ∙ sym (xor_half (gray n) x ∙ ap (λ (g : ℕ). bit_xor g (x / 2)) (gray_half n)))
    (gray_last m ∙ o ∙ sym (xor_odd (gray n) x ∙ ap (λ (g : ℕ). differ g (x % 2)) (gray_last n)))

-- after an even step digit 0 turns
even_step : (n : ℕ) → n % 2 ≡ 0 → gray (n + 1) ≡ bit_xor (gray n) 1
even_step n e =
    let one : (n + 1) % 2 ≡ 1 = omega arith in
    let same : (n + 1) / 2 ≡ n / 2 = omega arith in
    turned_digits n (n + 1) 1
    (ap gray same ∙ sym (xor_zero_r (gray (n / 2))))
    (ap₂ (λ (x y : ℕ). differ x (y % 2)) one same ∙ low (n / 2 % 2) (odd_lt (n / 2)) ∙ ap (λ (x : ℕ). differ (differ x (n / 2 % 2)) 1) (sym e))
  where
    low : (x : ℕ) → x < 2 → differ 1 x ≡ differ x 1
    low zero h = refl
    low (suc zero) h = refl
    low (suc (suc x)) h = absurd (let z : suc (suc x) < 2 = h in omega arith)

-- after an odd step a digit above it turns, as after half the step
odd_step : (n x : ℕ) → n % 2 ≡ 1 → gray (n / 2 + 1) ≡ bit_xor (gray (n / 2)) x → gray (n + 1) ≡ bit_xor (gray n) (2 * x)
odd_step n x e h =
    let none : (n + 1) % 2 ≡ 0 = omega arith in
    let more : (n + 1) / 2 ≡ n / 2 + 1 = omega arith in
    turned_digits n (n + 1) (2 * x)
    (ap gray more ∙ h ∙ ap (bit_xor (gray (n / 2))) (let z : x ≡ 2 * x / 2 = omega arith in z))
    (ap₂ (λ (a b : ℕ). differ a (b % 2)) none more ∙ high (n / 2) (n / 2 % 2) refl
    ∙ ap₂ (λ (a b : ℕ). differ (differ a (n / 2 % 2)) b) (sym e) (let z : 0 ≡ 2 * x % 2 = omega arith in z))
  where
    high : (y x : ℕ) → y % 2 ≡ x → (y + 1) % 2 ≡ differ (differ 1 x) 0
    high y zero e = omega arith
    high y (suc zero) e = omega arith
    high y (suc (suc x)) e = absurd (omega arith)

-- step n turns the digit that is the lowest 1 in n
pub gray_step : (f n : ℕ) → n + 1 < 2 ^ f → gray (n + 1) ≡ bit_xor (gray n) (2 ^ count_trailing_zeros f (n + 1))
unfolding count_trailing_zeros
gray_step zero n l = absurd (omega arith)
gray_step (suc f) n l = go (n % 2) refl (gray_step f (n / 2))
  where
    go : (r : ℕ) → n % 2 ≡ r → (n / 2 + 1 < 2 ^ f → gray (n / 2 + 1) ≡ bit_xor (gray (n / 2)) (2 ^ count_trailing_zeros f (n / 2 + 1)))
        → gray (n + 1) ≡ bit_xor (gray n) (2 ^ under ((n + 1) % 2) (count_trailing_zeros f ((n + 1) / 2)))
    go zero e ih = rw (let z : (n + 1) % 2 ≡ 1 = omega arith in z) (even_step n e)
    go (suc r) e ih =
        rw (let z : (n + 1) % 2 ≡ 0 = omega arith in z, let z : (n + 1) / 2 ≡ n / 2 + 1 = omega arith in z)
        (odd_step n (2 ^ count_trailing_zeros f (n / 2 + 1)) (omega arith) (ih (omega arith))
        ∙ ap (bit_xor (gray n)) (let z : 2 * 2 ^ count_trailing_zeros f (n / 2 + 1) ≡ 2 ^ suc (count_trailing_zeros f (n / 2 + 1)) = omega arith in z))

-- every fourth index is even, and the second one after it is odd
pub gray_even : (n : ℕ) → n % 4 ≡ 0 → gray n % 2 ≡ 0
gray_even n e = gray_last n ∙ ap₂ differ (let z : n % 2 ≡ 0 = omega arith in z) (let z : n / 2 % 2 ≡ 0 = omega arith in z)

pub gray-odd : (n : ℕ) → n % 4 ≡ 2 → gray n % 2 ≡ 1
gray-odd n e = gray_last n ∙ ap₂ differ (let z : n % 2 ≡ 0 = omega arith in z) (let z : n / 2 % 2 ≡ 1 = omega arith in z)

-- the lowest digit 1 of an odd number, and of twice an odd number
pub lowest-odd : (f n : ℕ) → n % 2 ≡ 1 → count_trailing_zeros (suc f) n ≡ 0
unfolding count_trailing_zeros
lowest-odd f n e = ap (λ (d : ℕ). under d (count_trailing_zeros f (n / 2))) e

pub lowest-two : (f n : ℕ) → n % 4 ≡ 2 → count_trailing_zeros (suc (suc f)) n ≡ 1
unfolding count_trailing_zeros
lowest-two f n e =
    ap₂ under (let z : n % 2 ≡ 0 = omega arith in z) (lowest-odd f (n / 2) (omega arith))

-- where the lowest digit 1 of a number can stand
pub lowest_lt : (f b n : ℕ) → 0 < n → n < 2 ^ b → count_trailing_zeros f n < b
unfolding count_trailing_zeros
lowest_lt f zero n p h = absurd (omega arith)
lowest_lt zero (suc b) n p h = omega arith
lowest_lt (suc f) (suc b) n p h = go (n % 2) refl (lowest_lt f b (n / 2))
  where
    go : (r : ℕ) → n % 2 ≡ r → (0 < n / 2 → n / 2 < 2 ^ b → count_trailing_zeros f (n / 2) < b) → under r (count_trailing_zeros f (n / 2)) < suc b
    go zero e ih = let q = ih (omega arith) (omega arith) in omega arith
    go (suc r) e ih = omega arith

-- some step visits index k
visited : (b k : ℕ) → k < 2 ^ b → (n : ℕ) × (n < 2 ^ b) × (gray n ≡ k)
visited zero k l = (0, omega arith, gray_start ∙ (let z : 0 ≡ k = omega arith in z))
visited (suc b) k l = go (visited b (k / 2) (omega arith))
  where
    lift : (n c : ℕ) → n < 2 ^ b → gray n ≡ k / 2 → c < 2 → differ c (n % 2) ≡ k % 2 → (n : ℕ) × (n < 2 ^ suc b) × (gray n ≡ k)
    lift n c h e d o =
        let half : (n * 2 + c) / 2 ≡ n = omega arith in
        let odd : (n * 2 + c) % 2 ≡ c = omega arith in (
          n * 2 + c,
          omega arith,
          by_digits (gray (n * 2 + c)) k (gray_half (n * 2 + c) ∙ ap gray half ∙ e) (gray_last (n * 2 + c) ∙ ap₂ (λ (x y : ℕ). differ x (y % 2)) odd half ∙ o),
        )

    go : (n : ℕ) × (n < 2 ^ b) × (gray n ≡ k / 2) → (n : ℕ) × (n < 2 ^ suc b) × (gray n ≡ k)
    go (n, h, e) = lift n (differ (k % 2) (n % 2)) h e (differ_lt (k % 2) (n % 2) (odd_lt k) (odd_lt n)) (differ_twice (k % 2) (n % 2) (odd_lt k) (odd_lt n))

-- two steps with one index are one
same_step : (b m n : ℕ) → m < 2 ^ b → n < 2 ^ b → gray m ≡ gray n → m ≡ n
same_step zero m n hm hn e = omega arith
same_step (suc b) m n hm hn e =
    let half : m / 2 ≡ n / 2 = same_step b (m / 2) (n / 2) (omega arith) (omega arith) (sym (gray_half m) ∙ ap (λ (g : ℕ). g / 2) e ∙ gray_half n) in
    by_digits m n half
    (sym (differ_twice (m % 2) (m / 2 % 2) (odd_lt m) (odd_lt (m / 2)))
    ∙ ap₂ (λ (x y : ℕ). differ x (y % 2)) (sym (gray_last m) ∙ ap (λ (g : ℕ). g % 2) e ∙ gray_last n) half
    ∙ differ_twice (n % 2) (n / 2 % 2) (odd_lt n) (odd_lt (n / 2)))

-- the first 2^b steps visit the indices below 2^b, each of them once
pub record Visits (b : ℕ) : Type 0 where
  pub below : (n : ℕ) → n < 2 ^ b → gray n < 2 ^ b
  pub visit : (k : ℕ) → k < 2 ^ b → (n : ℕ) × (n < 2 ^ b) × (gray n ≡ k)
  pub once : (m n : ℕ) → m < 2 ^ b → n < 2 ^ b → gray m ≡ gray n → m ≡ n

pub visits : (b : ℕ) → Visits b
unfolding gray
visits b = record { below = λ n l. xor_lt b n (n / 2) l (omega arith); visit = visited b; once = same_step b }

-- a power of two has its digit alone
pub lowest_power : (f b : ℕ) → b < f → count_trailing_zeros f (2 ^ b) ≡ b
unfolding count_trailing_zeros
lowest_power zero b l = absurd (omega arith)
lowest_power (suc f) zero l = refl
lowest_power (suc f) (suc b) l =
    let even : 2 ^ suc b % 2 ≡ 0 = omega arith in
    let half : 2 ^ suc b / 2 ≡ 2 ^ b = omega arith in
    ap₂ (λ (r x : ℕ). under r (count_trailing_zeros f x)) even half ∙ ap suc (lowest_power f b (omega arith))
