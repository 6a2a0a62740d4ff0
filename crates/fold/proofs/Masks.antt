-- The masks of a list's reads, as a loop sets them: each shared read's own digit, and at the end all digits for the first.
use Prim.Native.Nat.{ℕ, suc, ◌+◌, ◌-◌, ◌*◌, ◌^◌, ◌≤◌, ◌<◌}
use borrow.Author.Tests.{eqb-true, eqb-false, eq-eqb, ne_eqb}
use lib.Dec.{eqb}
use lib.ListN.{length, get_or, set, length-set}
use lib.Pow.{pow_pos, pow-lt, pow_mono}
use lib.Seq.{get_or-set_same, get_or-set_other}
use mathlib.Core.Bool.{Bool, true, false, cond, true≢false}
use mathlib.Core.List.{List}
use mathlib.Core.Logic.{◌≢◌}
use mathlib.Core.Path.{◌≡◌, refl, sym, ap, ◌∙◌}
use native.Mathlib.Decide.{dec_le}
use native.Mathlib.Nat.{mul-le-mul, mul-one, mul-zero, zero-mul, not-suc-le-zero}
use native.Mathlib.Omega.{arith}
use Rattle.meaning.specs.Numbers.{bit}
use Rattle.meaning.specs.Active.{used}
use Rattle.fold.proofs.Count.{count_none, count_more, count_lt}
use Rattle.fold.specs.Turn.{digit_of, shared_to, mask_of, turn_at}

-- the digit that `own` finds
pub own_none : (seen b : ℕ) → seen ≡ 0 → 0 ≡ digit_of seen * b
own_none seen b e = sym (ap (λ (t : Bool). cond t 0 (2 ^ (seen - 1)) * b) (eq-eqb seen 0 e) ∙ zero-mul b)

digit_is : (seen : ℕ) → seen ≢ 0 → digit_of seen ≡ 2 ^ (seen - 1)
digit_is seen ne = ap (λ (t : Bool). cond t 0 (2 ^ (seen - 1))) (ne_eqb seen 0 ne)

pub own_digit : (seen b x : ℕ) → seen ≢ 0 → x ≡ 2 ^ (seen - 1) → x * b ≡ digit_of seen * b
own_digit seen b x ne e = ap (λ (y : ℕ). y * b) (e ∙ sym (digit_is seen ne))

pub own-small : (seen b x : ℕ) → seen < 12 → b ≤ 1 → x ≡ 2 ^ (seen - 1) → x * b < 2 ^ 64
own-small seen b x l k e =
    let p : 2 ^ (seen - 1) ≤ 2 ^ 11 = pow_mono {j = 11} (omega arith) in
    let h : x ≤ 2 ^ 11 = rw e p in
    let m : x * b ≤ 2 ^ 11 * 1 = mul-le-mul h k in
    omega arith

module _ (shares : ℕ → Bool) where
  -- the digit that a read has before the first is set apart
  abbrev digit_at : ℕ → ℕ
  digit_at q = digit_of (shared_to shares q) * bit (shares q)

  -- the digits of the first i reads are set, and the first shared one of them is at place `head`
  pub record Masks (turn : List ℕ) (seen head i : ℕ) : Type 0 where
    pub count : seen ≡ shared_to shares i
    pub long : length turn ≡ 12
    pub done : (q : ℕ) → q < i → get_or turn q 0 ≡ digit_at q
    pub head_in : head < 12
    pub head_is : 0 < seen → (shares head ≡ true) × (shared_to shares head ≡ 0)

  pub masks_none : (turn : List ℕ) → length turn ≡ 12 → Masks turn 0 0 0
  masks_none turn e = record { count = sym (count_none shares); long = e; done = λ q l. absurd (not-suc-le-zero l); head_in = omega arith; head_is = λ l. absurd (not-suc-le-zero l) }

  pub masks_more : (turn : List ℕ) (seen head i b h m : ℕ) → i < 12 → b ≡ bit (shares i) → h ≡ cond (eqb seen 0) i head → m ≡ digit_of seen * b
      → Masks turn seen head i → Masks (set turn i m) (seen + b) h (i + 1)
  masks_more turn seen head i b h m l eb eh em w = record {
    count = let c = count_more shares i in omega (arith, w.count);
    long = simp length-set w.long;
    done = λ q k. on q (eqb q i) refl k;
    head_in = rw eh (room (eqb seen 0));
    head_is = rw eh (first (eqb seen 0) refl);
  }
    where
      is : m ≡ digit_of (shared_to shares i) * bit (shares i)
      is = em ∙ ap (λ (x : ℕ). digit_of x * b) w.count ∙ ap (λ (x : ℕ). digit_of (shared_to shares i) * x) eb

      on : (q : ℕ) (t : Bool) → eqb q i ≡ t → q < i + 1 → get_or (set turn i m) q 0 ≡ digit_of (shared_to shares q) * bit (shares q)
      on q true z k =
          let e : q ≡ i = eqb-true q i z in
          ap (λ (n : ℕ). get_or (set turn i m) n 0) e ∙ get_or-set_same turn i m 0 (omega (arith, w.long)) ∙ is ∙ ap (λ (n : ℕ). digit_of (shared_to shares n) * bit (shares n)) (sym e)
      on q false z k = let ne : q ≢ i = eqb-false q i z in get_or-set_other turn i q m 0 ne ∙ w.done q (omega arith)

      room : (t : Bool) → cond t i head < 12
      room true = l
      room false = w.head_in

      shared : (t : Bool) → b ≡ bit t → 0 < b → t ≡ true
      shared true e k = refl
      shared false e k = absurd (let z : ⊥ = omega arith in z)

      first : (t : Bool) → eqb seen 0 ≡ t → 0 < seen + b → (shares (cond t i head) ≡ true) × (shared_to shares (cond t i head) ≡ 0)
      first true z k = let e : seen ≡ 0 = eqb-true seen 0 z in (shared (shares i) eb (omega arith), sym w.count ∙ e)
      first false z k = let ne : seen ≢ 0 = eqb-false seen 0 z in w.head_is (omega arith)

  -- a read that is not shared has no mask
  unshared : (p q : ℕ) → shares q ≡ false → (digit_at q ≡ 0) × (turn_at shares p q ≡ 0)
  unfolding turn_at
  unshared p q t = (
    omega (arith, ap (λ (b : Bool). digit_of (shared_to shares q) * bit b) t, mul-zero (digit_of (shared_to shares q))),
    ap (λ (b : Bool). cond b (mask_of (shared_to shares q) (shared_to shares p)) 0) t,
  )

  -- a shared one that is not the first has its own digit
  later : (p q : ℕ) → shares q ≡ true → shared_to shares q ≢ 0 → digit_at q ≡ turn_at shares p q
  unfolding turn_at
  later p q t ne =
      ap (λ (b : Bool). digit_of (shared_to shares q) * bit b) t
      ∙ go (shared_to shares q) ne
      ∙ sym (ap (λ (b : Bool). cond b (mask_of (shared_to shares q) (shared_to shares p)) 0) t)
    where
      go : (n : ℕ) → n ≢ 0 → digit_of n * 1 ≡ mask_of n (shared_to shares p)
      go n z = mul-one (digit_of n) ∙ digit_is n z ∙ sym (ap (λ (b : Bool). cond b (used (shared_to shares p) - 1) (2 ^ (n - 1))) (ne_eqb n 0 z))

  -- and the first has all digits
  first_all : (p q : ℕ) → shares q ≡ true → shared_to shares q ≡ 0 → turn_at shares p q ≡ used (shared_to shares p) - 1
  unfolding turn_at
  first_all p q t z =
      ap (λ (b : Bool). cond b (mask_of (shared_to shares q) (shared_to shares p)) 0) t
      ∙ ap (λ (b : Bool). cond b (used (shared_to shares p) - 1) (2 ^ (shared_to shares q - 1))) (eq-eqb (shared_to shares q) 0 z)

  pub masks_all : (p : ℕ) (turn : List ℕ) (seen head m : ℕ) → Masks turn seen head p → m ≡ used seen - 1
      → (q : ℕ) → q < p → get_or (set turn head m) q 0 ≡ turn_at shares p q
  masks_all p turn seen head m w e q l = on (eqb q head) refl (shares q) refl
    where
      at_head : q ≡ head → get_or (set turn head m) q 0 ≡ m
      at_head z = ap (λ (n : ℕ). get_or (set turn head m) n 0) z ∙ get_or-set_same turn head m 0 (omega (arith, w.long, w.head_in))

      some : shares q ≡ true → 0 < seen
      some t = omega (arith, w.count, count_lt shares q p l t)

      -- of two shared reads the later has one before it
      not_first : shares q ≡ true → q ≢ head → shared_to shares q ≢ 0
      not_first t ne z =
          let h = w.head_is (some t) in
          go (dec_le (suc q) head) h
        where
          go : Dec (q < head) → (shares head ≡ true) × (shared_to shares head ≡ 0) → ⊥
          go (yes k) h = omega (arith, count_lt shares q head k t, h.1)
          go (no k) h = let b : head < q = omega arith in omega (arith, count_lt shares head q b h.0)

      none : q ≡ head → shares q ≡ false → Dec (0 < seen) → seen ≡ 0
      none z t (yes k) = absurd (true≢false (sym (ap shares z ∙ (w.head_is k).0) ∙ t))
      none z t (no k) = omega arith

      on : (b : Bool) → eqb q head ≡ b → (t : Bool) → shares q ≡ t → get_or (set turn head m) q 0 ≡ turn_at shares p q
      on true z true t =
          let z' : q ≡ head = eqb-true q head z in
          at_head z' ∙ e ∙ ap (λ (n : ℕ). used n - 1) w.count ∙ sym (first_all p q t (ap (shared_to shares) z' ∙ (w.head_is (some t)).1))
      on true z false t =
          let z' : q ≡ head = eqb-true q head z in
          at_head z' ∙ e ∙ ap (λ (n : ℕ). used n - 1) (none z' t (dec_le 1 seen)) ∙ sym (unshared p q t).1
      on false z true t = let ne : q ≢ head = eqb-false q head z in get_or-set_other turn head q m 0 ne ∙ w.done q l ∙ later p q t (not_first t ne)
      on false z false t = let ne : q ≢ head = eqb-false q head z in let u = unshared p q t in get_or-set_other turn head q m 0 ne ∙ w.done q l ∙ u.0 ∙ sym u.1

  pub turn_lt : (i p : ℕ) → i < p → turn_at shares p i < used (shared_to shares p)
  unfolding turn_at
  turn_lt i p l = go (shares i) refl
    where
      go : (b : Bool) → shares i ≡ b → cond b (mask_of (shared_to shares i) (shared_to shares p)) 0 < used (shared_to shares p)
      go false t = pow_pos (shared_to shares p - 1)
      go true t = on (eqb (shared_to shares i) 0) refl
        where
          on : (b : Bool) → eqb (shared_to shares i) 0 ≡ b → cond b (used (shared_to shares p) - 1) (2 ^ (shared_to shares i - 1)) < used (shared_to shares p)
          on true e = omega (arith, pow_pos (shared_to shares p - 1))
          on false e = let ne : shared_to shares i ≢ 0 = eqb-false (shared_to shares i) 0 e in pow-lt (omega (arith, count_lt shares i p l t))
