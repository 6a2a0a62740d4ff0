-- Sides as digits of an index, and where the classes of a column start.
use Prim.Native.Nat.{ℕ, zero, suc, ◌+◌, ◌-◌, ◌*◌, ◌/◌, ◌%◌, ◌^◌, ◌≤◌, ◌<◌}
use lib.Bits.{bit_xor, xor_lt}
use lib.Dec.{eqb}
use lib.ListN.{length, get_or, take}
use lib.Pow.{pow_pos, pow-add, shl_exact}
use lib.Seq.{take-suc, length-take-le}
use mathlib.Core.Bool.{Bool, true, false, cond, not}
use mathlib.Core.List.{List, [], ◌∷◌, ◌++◌}
use mathlib.Core.Path.{◌≡◌, refl, sym, ap, ◌∙◌, ap₂, subst}
use native.Mathlib.Nat.{not-suc-le-zero, le_of_suc-le-suc, mul-le-mul_right, mul-div_cancel_left}
use native.Mathlib.Numerals.{add-one}
use native.Mathlib.Omega.{arith}
use Rattle.meaning.specs.Numbers.{bit}
use Rattle.meaning.specs.Active.{used}
use Rattle.meaning.specs.Division.{Side, Division}
use Rattle.meaning.specs.Rule.{other, folded, index_at}
use Rattle.meaning.proofs.Index.{index-append, index-used}
use Rattle.fold.proofs.Count.{bit_lt}

pub bit_one : (b : Bool) → eqb (bit b) 1 ≡ b
bit_one true = refl
bit_one false = refl

pub one_side : (x : ℕ) → x ≤ 1 → x ≡ bit (eqb x 1)
one_side zero l = refl
one_side (suc zero) l = refl
one_side (suc (suc x)) l = absurd (not-suc-le-zero (le_of_suc-le-suc l))

pub bit_le : (x : ℕ) (b : Bool) → x ≡ bit b → x ≤ 1
bit_le x b e = omega (arith, bit_lt b)

-- the digit of a read on side t, where the first read is on side s
abbrev pub digit : Side → Side → Side
digit s t = cond s (not t) t

pub exchanged : (b s : Side) → bit_xor (bit b) (bit s) ≡ bit (digit s b)
exchanged true true = refl
exchanged true false = refl
exchanged false true = refl
exchanged false false = refl

pub digit_small : (x y : ℕ) → x ≤ 1 → y ≤ 1 → bit_xor x y ≤ 1
digit_small x y l m = omega (arith, xor_lt 1 x y (omega arith) (omega arith))

-- an index of one read, and with one read more
pub index_one : (rs : List ℕ) (d : Division) → index_at (take 1 rs) d ≡ 0
index_one [] d = refl
index_one (r ∷ rs) d = refl

index_snoc : (x : ℕ) (xs : List ℕ) (r : ℕ) (d : Division) → index_at (x ∷ (xs ++ (r ∷ []))) d ≡ index_at (x ∷ xs) d + bit (digit (d x) (d r)) * 2 ^ length xs
index_snoc x xs r d =
    index-append xs (r ∷ []) (folded (x ∷ xs) d) ∙ ap (λ (b : Bool). index_at (x ∷ xs) d + 2 ^ length xs * (bit b + 2 * 0)) (at_r (d x)) ∙ arranged (index_at (x ∷ xs) d) (2 ^ length xs) (digit (d x) (d r))
  where
    at_r : (s : Bool) → cond s (other d) d r ≡ digit s (d r)
    at_r true = refl
    at_r false = refl

    arranged : (a n : ℕ) (b : Bool) → a + n * (bit b + 2 * 0) ≡ a + bit b * n
    arranged a n true = omega arith
    arranged a n false = omega arith

pub index_next : (reads : List ℕ) (i : ℕ) → 0 < i → i < length reads → (d : Division)
    → index_at (take (i + 1) reads) d ≡ index_at (take i reads) d + bit (digit (d (get_or reads 0 0)) (d (get_or reads i 0))) * 2 ^ (i - 1)
index_next [] i m l d = absurd (not-suc-le-zero l)
index_next (x ∷ rs) zero m l d = absurd (not-suc-le-zero m)
index_next (x ∷ rs) (suc i) m l d =
    rw add-one
    (ap (λ (xs : List ℕ). index_at (x ∷ xs) d) (take-suc rs i 0 (le_of_suc-le-suc l))
    ∙ index_snoc x (take i rs) (get_or rs i 0) d
    ∙ ap (λ (n : ℕ). index_at (x ∷ take i rs) d + bit (digit (d x) (d (get_or rs i 0))) * 2 ^ n) (length-take-le i rs (omega (arith, le_of_suc-le-suc l)) ∙ pred_suc i))
  where
    pred_suc : (n : ℕ) → n ≡ suc n - 1
    pred_suc n = omega arith

pub index_more : (reads : List ℕ) (i : ℕ) → 0 < i → i < length reads → (d : Division) (low head side : ℕ)
    → low ≡ index_at (take i reads) d → head ≡ bit (d (get_or reads 0 0)) → side ≡ bit (d (get_or reads i 0))
    → low + bit_xor side head * 2 ^ (i - 1) ≡ index_at (take (i + 1) reads) d
index_more reads i m l d low head side el eh es =
    ap₂ (λ (a n : ℕ). a + n * 2 ^ (i - 1)) el (ap₂ bit_xor es eh ∙ exchanged (d (get_or reads i 0)) (d (get_or reads 0 0))) ∙ sym (index_next reads i m l d)

pub index-small : (reads : List ℕ) (i : ℕ) → i ≤ length reads → (d : Division) → index_at (take i reads) d < used i
index-small reads i l d = subst (λ (n : ℕ). index_at (take i reads) d < used n) (length-take-le i reads l) (index-used (take i reads) d)

-- where the classes of one read more start
module _ (low digit i : ℕ) (m : 0 < i) (l : low < used i) (k : digit ≤ 1) where
  pub class_lt : low + digit * 2 ^ (i - 1) < 2 ^ i
  class_lt =
      let e : i ≡ suc (i - 1) = omega arith in
      let p : 2 ^ i ≡ 2 * 2 ^ (i - 1) = ap (λ (n : ℕ). 2 ^ n) e ∙ double (i - 1) in
      omega (arith, mul-le-mul_right (2 ^ (i - 1)) k)
    where
      double : (n : ℕ) → 2 ^ suc n ≡ 2 * 2 ^ n
      double n = omega arith

  pub class_laid : i < 12 → digit * 2 ^ (i - 1) % 2 ^ 64 ≡ digit * 2 ^ (i - 1)
  class_laid h = shl_exact {a = digit} 1 (i - 1) 64 (omega arith) (omega arith)

-- the classes have whole rows
pub classes_whole : (i p n : ℕ) → i < p → n ≡ used p → (2 ^ i * (n / 2 ^ i) ≡ n) × (0 < n)
classes_whole i p n l e = (
  ap (λ (x : ℕ). 2 ^ i * (x / 2 ^ i)) split ∙ ap (λ (x : ℕ). 2 ^ i * x) (mul-div_cancel_left (2 ^ (p - 1 - i)) (pow_pos i)) ∙ sym split,
  subst (λ (x : ℕ). 0 < x) (sym e) (pow_pos (p - 1)),
)
  where
    sum : p - 1 ≡ i + (p - 1 - i)
    sum = omega arith

    split : n ≡ 2 ^ i * 2 ^ (p - 1 - i)
    split = e ∙ ap (λ (x : ℕ). 2 ^ x) sum ∙ pow-add 2 i (p - 1 - i)
