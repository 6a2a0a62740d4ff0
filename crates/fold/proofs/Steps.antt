-- One digit of an index turned: one read changes its side, and the folded index is turned by that read's mask.
use Prim.Native.Nat.{ℕ, zero, suc, ◌+◌, ◌-◌, ◌/◌, ◌%◌, ◌^◌, ◌<◌}
use borrow.Author.Tests.{eqb-true, eqb-false}
use lib.Arith.{bin_ind, digits_mod}
use lib.Bits.{bit_xor, differ, xor_step, xor_shr, xor_comm, xor_zero_r, xor_self}
use lib.Dec.{eqb}
use lib.ListN.{get_or}
use lib.Pow.{pow_pos, pow-lt, shl-shr, shr-shr}
use mathlib.Core.Bool.{Bool, true, false, cond, not}
use mathlib.Core.List.{List}
use mathlib.Core.Logic.{◌≢◌}
use mathlib.Core.Path.{◌≡◌, refl, sym, ap, ap₂, ◌∙◌}
use native.Mathlib.Nat.{div-eq_of_lt, not-suc-le-zero, one-mul}
use native.Mathlib.Numerals.{add-one, one-add}
use native.Mathlib.Omega.{arith}
use Rattle.fold.specs.Turn.{side_at, fold_to}
use Rattle.fold.proofs.Digits.{Turned}

-- a number by its half and its last digit
pub by_digits : (a b : ℕ) → a / 2 ≡ b / 2 → a % 2 ≡ b % 2 → a ≡ b
by_digits a b h o = omega arith

pub odd_lt : (x : ℕ) → x % 2 < 2
odd_lt x = omega arith

-- two digits, and three
pub differ_lt : (x y : ℕ) → x < 2 → y < 2 → differ x y < 2
differ_lt zero y hx hy = hy
differ_lt (suc x) zero hx hy = hx
differ_lt (suc zero) (suc zero) hx hy = omega arith
differ_lt (suc zero) (suc (suc y)) hx hy = absurd (let z : suc (suc y) < 2 = hy in omega arith)
differ_lt (suc (suc x)) (suc y) hx hy = absurd (let z : suc (suc x) < 2 = hx in omega arith)

differ_assoc : (x y z : ℕ) → x < 2 → y < 2 → z < 2 → differ (differ x y) z ≡ differ x (differ y z)
differ_assoc zero y z hx hy hz = refl
differ_assoc (suc x) zero z hx hy hz = refl
differ_assoc (suc zero) (suc zero) zero hx hy hz = refl
differ_assoc (suc zero) (suc zero) (suc zero) hx hy hz = refl
differ_assoc (suc zero) (suc zero) (suc (suc z)) hx hy hz = absurd (let h : suc (suc z) < 2 = hz in omega arith)
differ_assoc (suc zero) (suc (suc y)) z hx hy hz = absurd (let h : suc (suc y) < 2 = hy in omega arith)
differ_assoc (suc (suc x)) (suc y) z hx hy hz = absurd (let h : suc (suc x) < 2 = hx in omega arith)

pub differ_none : (x : ℕ) → differ x 0 ≡ x
differ_none zero = refl
differ_none (suc x) = refl

pub differ_twice : (x y : ℕ) → x < 2 → y < 2 → differ (differ x y) y ≡ x
differ_twice x y hx hy = differ_assoc x y y hx hy hy ∙ ap (differ x) (same y) ∙ differ_none x
  where
    same : (y : ℕ) → differ y y ≡ 0
    same zero = refl
    same (suc y) = same y

-- the half and the last digit of numbers taken bitwise
pub xor_half : (a b : ℕ) → bit_xor a b / 2 ≡ bit_xor (a / 2) (b / 2)
xor_half a b = xor_shr a b 1

pub xor_odd : (a b : ℕ) → bit_xor a b % 2 ≡ differ (a % 2) (b % 2)
xor_odd a b = ap (λ (n : ℕ). n % 2) (xor_step a b) ∙ digits_mod (bit_xor (a / 2) (b / 2)) (differ_lt (a % 2) (b % 2) (odd_lt a) (odd_lt b))

xor_assoc : (a b c : ℕ) → bit_xor (bit_xor a b) c ≡ bit_xor a (bit_xor b c)
xor_assoc a =
    bin_ind (λ (n : ℕ). (b c : ℕ) → bit_xor (bit_xor n b) c ≡ bit_xor n (bit_xor b c)) (λ b c. refl)
    (λ n ih b c. by_digits (bit_xor (bit_xor n b) c) (bit_xor n (bit_xor b c))
    (xor_half (bit_xor n b) c ∙ ap (λ (x : ℕ). bit_xor x (c / 2)) (xor_half n b) ∙ ih (b / 2) (c / 2) ∙ sym (xor_half n (bit_xor b c) ∙ ap (bit_xor (n / 2)) (xor_half b c)))
    (xor_odd (bit_xor n b) c ∙ ap (λ (x : ℕ). differ x (c % 2)) (xor_odd n b) ∙ differ_assoc (n % 2) (b % 2) (c % 2) (odd_lt n) (odd_lt b) (odd_lt c)
    ∙ sym (xor_odd n (bit_xor b c) ∙ ap (differ (n % 2)) (xor_odd b c)))) a

-- a mask twice, and two masks in either order
xor_twice : (a b : ℕ) → bit_xor (bit_xor a b) b ≡ a
xor_twice a b = xor_assoc a b b ∙ ap (bit_xor a) (xor_self b) ∙ xor_zero_r a

xor_swap : (a b c : ℕ) → bit_xor (bit_xor a b) c ≡ bit_xor (bit_xor a c) b
xor_swap a b c = xor_assoc a b c ∙ ap (bit_xor a) (xor_comm b c) ∙ sym (xor_assoc a c b)

-- a mask, another, and the first once more
pub xor_back : (a b c : ℕ) → bit_xor (bit_xor (bit_xor a b) c) b ≡ bit_xor a c
xor_back a b c = ap (λ (x : ℕ). bit_xor x b) (xor_swap a b c) ∙ xor_twice (bit_xor a c) b

-- digit i of 2^d
power_here : (d : ℕ) → 2 ^ d / 2 ^ d % 2 ≡ 1
power_here d = ap (λ (n : ℕ). n / 2 ^ d % 2) (sym (one-mul (2 ^ d))) ∙ ap (λ (n : ℕ). n % 2) (shl-shr 1 d)

power_else : (d i : ℕ) → i ≢ d → 2 ^ d / 2 ^ i % 2 ≡ 0
power_else zero zero ne = absurd (ne refl)
power_else zero (suc i) ne = ap (λ (n : ℕ). n % 2) (div-eq_of_lt (pow-lt (let z : 0 < suc i = omega arith in z)))
power_else (suc d) zero ne = let z : 2 ^ suc d / 1 % 2 ≡ 0 = omega arith in z
power_else (suc d) (suc i) ne =
    ap (λ (n : ℕ). 2 ^ suc d / 2 ^ n % 2) (sym (one-add i))
    ∙ ap (λ (n : ℕ). n % 2) (sym (shr-shr (2 ^ suc d) 1 i))
    ∙ ap (λ (n : ℕ). n / 2 ^ i % 2) (let z : 2 ^ suc d / 2 ≡ 2 ^ d = omega arith in z)
    ∙ power_else d i (λ e. ne (ap suc e))

xor_digit : (a b i : ℕ) → bit_xor a b / 2 ^ i % 2 ≡ differ (a / 2 ^ i % 2) (b / 2 ^ i % 2)
xor_digit a b i = ap (λ (n : ℕ). n % 2) (xor_shr a b i) ∙ xor_odd (a / 2 ^ i) (b / 2 ^ i)

-- digit d turned, and every other digit as it was
pub digit_turned : (k d : ℕ) → bit_xor k (2 ^ d) / 2 ^ d % 2 ≡ 1 - k / 2 ^ d % 2
digit_turned k d = xor_digit k (2 ^ d) d ∙ ap (differ (k / 2 ^ d % 2)) (power_here d) ∙ turns (k / 2 ^ d % 2) (odd_lt (k / 2 ^ d))
  where
    turns : (x : ℕ) → x < 2 → differ x 1 ≡ 1 - x
    turns zero h = refl
    turns (suc zero) h = refl
    turns (suc (suc x)) h = absurd (let z : suc (suc x) < 2 = h in omega arith)

pub digit_kept : (k d i : ℕ) → i ≢ d → bit_xor k (2 ^ d) / 2 ^ i % 2 ≡ k / 2 ^ i % 2
digit_kept k d i ne = xor_digit k (2 ^ d) i ∙ ap (differ (k / 2 ^ i % 2)) (power_else d i ne) ∙ differ_none (k / 2 ^ i % 2)

-- index 0 has every read on side 0
pub side_start : (i : ℕ) → side_at 0 i ≡ false
side_start zero = refl
side_start (suc i) = ap (λ (n : ℕ). eqb (n % 2) 1) (div-eq_of_lt (pow_pos i))

-- digit d turned: read d + 1 changes its side, and no other
pub side_step : (k d : ℕ) → Turned (d + 1) (side_at k) (side_at (bit_xor k (2 ^ d)))
side_step k d = rw add-one record { same = kept; turned = ap one (digit_turned k d) ∙ turns (k / 2 ^ d % 2) (odd_lt (k / 2 ^ d)) }
  where
    one : ℕ → Bool
    one n = eqb n 1

    turns : (x : ℕ) → x < 2 → one (1 - x) ≡ not (one x)
    turns zero h = refl
    turns (suc zero) h = refl
    turns (suc (suc x)) h = absurd (let z : suc (suc x) < 2 = h in omega arith)

    kept : (q : ℕ) → q ≢ suc d → side_at (bit_xor k (2 ^ d)) q ≡ side_at k q
    kept zero ne = refl
    kept (suc i) ne = ap one (digit_kept k d i (λ e. ne (ap suc e)))

-- the folded index goes by the sides of the first p reads
fold_ext : (turn : List ℕ) (k l p : ℕ) → ((q : ℕ) → q < p → side_at l q ≡ side_at k q) → fold_to turn l p ≡ fold_to turn k p
unfolding fold_to
fold_ext turn k l zero h = refl
fold_ext turn k l (suc p) h =
    ap₂ (λ (s : Bool) (f : ℕ). cond s (bit_xor f (get_or turn p 0)) f) (h p (omega arith)) (fold_ext turn k l p (λ q m. h q (omega arith)))

-- one read that changes its side turns it by its mask
pub fold_step : (turn : List ℕ) (k l i p : ℕ) → i < p → Turned i (side_at k) (side_at l) → fold_to turn l p ≡ bit_xor (fold_to turn k p) (get_or turn i 0)
unfolding fold_to
fold_step turn k l i zero m h = absurd (not-suc-le-zero m)
fold_step turn k l i (suc p) m h = go (λ n. fold_step turn k l i p n h) (eqb i p) refl
  where
    next : Bool → ℕ → ℕ
    next s f = cond s (bit_xor f (get_or turn p 0)) f

    here : (s : Bool) (f : ℕ) → next (not s) f ≡ bit_xor (next s f) (get_or turn p 0)
    here true f = sym (xor_twice f (get_or turn p 0))
    here false f = refl

    later : (s : Bool) (f t : ℕ) → next s (bit_xor f t) ≡ bit_xor (next s f) t
    later true f t = xor_swap f t (get_or turn p 0)
    later false f t = refl

    last : Turned p (side_at k) (side_at l) → next (side_at l p) (fold_to turn l p) ≡ bit_xor (next (side_at k p) (fold_to turn k p)) (get_or turn p 0)
    last t = ap₂ next t.turned (fold_ext turn k l p (λ q n. t.same q (λ e. omega arith))) ∙ here (side_at k p) (fold_to turn k p)

    go : (i < p → fold_to turn l p ≡ bit_xor (fold_to turn k p) (get_or turn i 0)) → (b : Bool) → eqb i p ≡ b → fold_to turn l (suc p) ≡ bit_xor (fold_to turn k (suc p)) (get_or turn i 0)
    go ih true e = let z : i ≡ p = eqb-true i p e in rw z (last (rw z at h))
    go ih false e =
        let ne : i ≢ p = eqb-false i p e in
        ap₂ next (h.same p (λ z. ne (sym z))) (ih (omega arith)) ∙ later (side_at k p) (fold_to turn k p) (get_or turn i 0)

-- with every read on side 0 it is 0
pub fold_start : (turn : List ℕ) (p : ℕ) → fold_to turn 0 p ≡ 0
unfolding fold_to
fold_start turn zero = refl
fold_start turn (suc p) = ap₂ (λ (s : Bool) (f : ℕ). cond s (bit_xor f (get_or turn p 0)) f) (side_start p) (fold_start turn p)
