-- What the verdicts 50 to 52 leave, and searches among bytes.
use Prim.Native.Nat.{ℕ, zero, suc, ◌+◌, ◌-◌, ◌*◌, ◌≤◌, ◌<◌}
use mathlib.Core.Bool.{Bool, true, false, not, ◌||◌, true≢false}
use mathlib.Core.List.{List}
use mathlib.Core.Path.{◌≡◌, refl, sym, ap, ap₂, ◌∙◌}
use native.Mathlib.Omega.{arith}
use lib.ListN.{length, get_or, take, drop, length-drop}
use lib.Seq.{get_or-take, get_or-drop, length-take-le, ext_get_or}
use lib.Dec.{ltb, eqb}
use borrow.Author.Tests.{lt-ltb, le-ltb, eq-eqb, eqb-true, ltb-false}
use Rattle.meaning.specs.Numbers.{any_to}
use Rattle.meaning.specs.Judge.{stated_length, stated_reads, stated_columns, malformed, unknown_mark}
use Rattle.meaning.proofs.Refusals.{or_false_left, or_false_right}
use Rattle.std.proofs.Common.{MatchBool, Decides}
use Rattle.std.specs.Cmp.Lexicographic.{pointwise}
use Rattle.std.proofs.lemmas.Bool.Decides.{Decides-eqb}
use Rattle.std.proofs.lemmas.Slice.Eq.{slice_eq-Decides}
use Rattle.std.specs.List.{HoldsAt, AllWithin}
use Rattle.meaning.proofs.Lists.{any_at}
use Rattle.layout.proofs.Tests.{none_of, none_at}
use Rattle.stated.specs.Stated.{Sized}

neither : (p q : Bool) → (not p || not q) ≡ false → (p ≡ true) × (q ≡ true)
neither true true e = (refl, refl)
neither true false e = absurd (true≢false e)
neither false q e = absurd (true≢false e)

-- an answer that is not malformed has 17 bytes, and with our counts it is sized by them
pub seventeen : (a : List ℕ) → malformed a ≡ false → 17 ≤ length a
unfolding malformed
seventeen a h = ltb-false (length a) 17 (or_false_left _ _ h)

pub same_counts : (a : List ℕ) (m n : ℕ) → m ≤ 1024 → n ≤ 1024 → malformed a ≡ false
    → (not (eqb (stated_reads a) n) || not (eqb (stated_columns a) m)) ≡ false → Sized a m n
unfolding malformed
same_counts a m n few-m few-n h e =
    let told = or_false_right (not (eqb (get_or a 0 0) 2)) _ (or_false_right (ltb (length a) 17) _ h) in
    let lengths = neither (eqb (stated_length a) (length a - 5)) (eqb (stated_length a) (12 + stated_reads a + 2 * stated_columns a)) told in
    let counts = neither (eqb (stated_reads a) n) (eqb (stated_columns a) m) e in
    let present : stated_length a ≡ length a - 5 = eqb-true _ _ lengths.0 in
    let counted : stated_length a ≡ 12 + stated_reads a + 2 * stated_columns a = eqb-true _ _ lengths.1 in
    let reads : stated_reads a ≡ n = eqb-true _ _ counts.0 in
    let columns : stated_columns a ≡ m = eqb-true _ _ counts.1 in
    record { reads = reads; columns = columns; whole = omega (arith, seventeen a h); few-columns = few-m; few-reads = few-n }

-- 52: of the bytes behind the head the first n are sides, the rest letters
pub any_ext : (n : ℕ) (f g : ℕ → Bool) → ((i : ℕ) → i < n → f i ≡ g i) → any_to n f ≡ any_to n g
unfolding any_to
any_ext zero f g h = refl
any_ext (suc n) f g h = ap₂ ◌||◌ (any_ext n f g (λ i l. h i (omega arith))) (h n (omega arith))

-- a part has as many bytes as it is long
pub part_length : (a : List ℕ) (k e n : ℕ) → e ≤ length a → e ≡ k + n → length (take (e - k) (drop k a)) ≡ n
part_length a k e n l h = length-take-le (e - k) (drop k a) (omega (arith, length-drop k a)) ∙ omega arith

-- a test at some byte of a part is a test at some byte of the answer
part_any : (a : List ℕ) (k e n : ℕ) (t : ℕ → Bool) → e ≤ length a → e ≡ k + n → any_to (length (take (e - k) (drop k a))) (λ i. t (get_or (take (e - k) (drop k a)) i 0)) ≡ any_to n (λ i. t (get_or a (k + i) 0))
part_any a k e n t l h =
    ap (λ (x : ℕ). any_to x (λ i. t (get_or (take (e - k) (drop k a)) i 0))) (part_length a k e n l h)
    ∙ any_ext n _ _ (λ i j. ap t (get_or-take (e - k) (drop k a) i 0 (omega arith) ∙ get_or-drop k a i 0))

-- some byte above a limit is found, or none is
pub above_told : (most : ℕ) (xs : List ℕ) (r : Bool) → MatchBool r ((k : ℕ) × (k < length xs) × HoldsAt (λ x. most < x) xs k) (AllWithin (λ x. x ≤ most) xs 0 (length xs))
    → r ≡ any_to (length xs) (λ i. ltb most (get_or xs i 0))
above_told most xs true h = sym (any_at (length xs) _ h.0 h.1 (lt-ltb _ _ (h.2 0)))
above_told most xs false h = sym (none_of (length xs) _ (λ i l. le-ltb _ _ (h i 0 (omega arith) l)))

-- two lists of one length differ at some place, or are the same
pub equal : (x y : ℕ) → not (eqb x y) ≡ false → x ≡ y
equal x y h = eqb-true x y (go (eqb x y) h)
  where
    go : (b : Bool) → not b ≡ false → b ≡ true
    go true e = refl
    go false e = absurd (true≢false e)

pub differ_told : (xs ys : List ℕ) → length xs ≡ length ys → (r : Bool) → r ≡ not (pointwise eqb xs ys)
    → r ≡ any_to (length xs) (λ i. not (eqb (get_or ys i 0) (get_or xs i 0)))
differ_told xs ys l r told = told ∙ go (pointwise eqb xs ys) refl
  where
    same : Decides (pointwise eqb xs ys) (xs ≡ ys)
    same = slice_eq-Decides Decides-eqb xs ys _ refl

    go : (b : Bool) → pointwise eqb xs ys ≡ b → not b ≡ any_to (length xs) (λ i. not (eqb (get_or ys i 0) (get_or xs i 0)))
    go true e = sym (none_of (length xs) _ (λ i _. ap not (eq-eqb _ _ (ap (λ (zs : List ℕ). get_or zs i 0) (sym (same.0 e))))))
    go false e = some (any_to (length xs) (λ i. not (eqb (get_or ys i 0) (get_or xs i 0)))) refl
      where
        some : (b : Bool) → any_to (length xs) (λ i. not (eqb (get_or ys i 0) (get_or xs i 0))) ≡ b → true ≡ b
        some true f = refl
        some false f = absurd (true≢false (sym (same.1 (ext_get_or 0 xs ys l (λ i k. sym (equal _ _ (none_at (length xs) _ f i k))))) ∙ e))

module _ (a : List ℕ) (m n : ℕ) (sized : Sized a m n) (above : Bool)
    (sides : above ≡ any_to (length (take (17 + n - 17) (drop 17 a))) (λ i. ltb 1 (get_or (take (17 + n - 17) (drop 17 a)) i 0))) where
  by_sides : above ≡ any_to (stated_reads a) (λ r. ltb 1 (get_or a (17 + r) 0))
  by_sides = sides ∙ part_any a 17 (17 + n) (stated_reads a) (ltb 1) (omega (arith, sized.whole)) (omega (arith, sized.reads))

  pub unknown_side : above ≡ true → true ≡ unknown_mark a
  unfolding unknown_mark
  unknown_side h = sym (ap (λ (b : Bool). b || any_to (2 * stated_columns a) (λ i. ltb 2 (get_or a (17 + stated_reads a + i) 0))) (sym by_sides ∙ h))

  pub by_letters : above ≡ false → (r : Bool)
      → r ≡ any_to (length (take (17 + n + 2 * m - (17 + n)) (drop (17 + n) a))) (λ i. ltb 2 (get_or (take (17 + n + 2 * m - (17 + n)) (drop (17 + n) a)) i 0)) → r ≡ unknown_mark a
  unfolding unknown_mark
  by_letters h r e =
      e
      ∙ part_any a (17 + n) (17 + n + 2 * m) (2 * stated_columns a) (ltb 2) (omega (arith, sized.whole)) (omega (arith, sized.columns))
      ∙ ap (λ (k : ℕ). any_to (2 * stated_columns a) (λ i. ltb 2 (get_or a (17 + k + i) 0))) (sym sized.reads)
      ∙ sym (ap (λ (b : Bool). b || any_to (2 * stated_columns a) (λ i. ltb 2 (get_or a (17 + stated_reads a + i) 0))) (sym by_sides ∙ h))
