-- Of reads in closing order those that close in column j stand last: those before the first of them go on.
use Prim.Native.Nat.{ℕ, zero, suc, ◌+◌, ◌-◌, ◌≤◌, ◌<◌}
use borrow.Author.Tests.{eq-eqb, ne_eqb}
use lib.Dec.{eqb}
use lib.ListN.{length, get_or}
use mathlib.Core.Bool.{Bool, not}
use mathlib.Core.List.{List}
use mathlib.Core.Logic.{◌≢◌}
use mathlib.Core.Path.{◌≡◌, sym, ap, ◌∙◌}
use native.Mathlib.Nat.{add-zero}
use native.Mathlib.Omega.{arith}
use Rattle.std.specs.List.{AllWithin, HoldsAt}
use Rattle.std.specs.Prelude.{Option, Some, None}
use Rattle.std.specs.Option.{MatchOption, unwrap_or}
use Rattle.std.proofs.lemmas.Grind.{get_or_default_zero}
use Rattle.fold.specs.Turn.{shared_to}
use Rattle.fold.proofs.Count.{count_none, count_yes, count_no}

-- a read of a list whose reads are all below n
pub listed_below : (list : List ℕ) (n : ℕ) → ((i : ℕ) → i < length list → get_or list i 0 < n)
    → (r k : ℕ) → k < length list → r ≡ get_or list k r → r < n
listed_below list n each r k m e = rw (e ∙ get_or_default_zero list k r m) (each k m)

-- the end of the i-th read is `ends i`; it goes on where that is not `after`
module _ (ends : ℕ → ℕ) (after : ℕ) where
  abbrev pub goes_on : ℕ → Bool
  goes_on i = not (eqb (ends i) after)

  -- before the first that closes all go on
  on_all : (n : ℕ) → ((k : ℕ) → k < n → ends k ≢ after) → n ≡ shared_to goes_on n
  on_all zero h = sym (count_none goes_on)
  on_all (suc n) h =
      let before : n ≡ shared_to goes_on n = on_all n (λ k l. h k (omega arith)) in
      let next : suc n ≡ n + 1 = omega arith in
      next ∙ ap (λ (x : ℕ). x + 1) before ∙ sym (count_yes goes_on n (ap not (ne_eqb (ends n) after (h n (omega arith))))) ∙ ap (shared_to goes_on) (sym next)

  -- from a read that closes on all close
  module _ (p : ℕ) (order : (i : ℕ) → i + 1 < p → ends i ≡ after → ends (i + 1) ≡ after) (i : ℕ) (e : ends i ≡ after) where
    closing : (n : ℕ) → i + n ≤ p → (i + n < p → ends (i + n) ≡ after) × (shared_to goes_on (i + n) ≡ shared_to goes_on i)
    closing zero l = (λ _. ap ends (add-zero i) ∙ e, ap (shared_to goes_on) (add-zero i))
    closing (suc n) l =
        let h = closing n (omega arith) in
        let closes = h.0 (omega arith) in
        let next : i + suc n ≡ i + n + 1 = omega arith in (
          λ k. ap ends next ∙ order (i + n) (omega arith) closes,
          ap (shared_to goes_on) next ∙ count_no goes_on (i + n) (ap not (eq-eqb (ends (i + n)) after closes)) ∙ h.1,
        )

    rest_closes : i ≤ p → i ≡ shared_to goes_on i → i ≡ shared_to goes_on p
    rest_closes l h = let whole : i + (p - i) ≡ p = omega arith in h ∙ sym (ap (shared_to goes_on) (sym whole) ∙ (closing (p - i) (omega arith)).1)

-- so the place of the first that closes, the list's length if none does, is how many go on
pub goes_until : (list : List ℕ) (end : ℕ → ℕ) (after : ℕ)
    → ((i : ℕ) → i + 1 < length list → end (get_or list i 0) ≡ after → end (get_or list (i + 1) 0) ≡ after) → (r : Option ℕ)
    → MatchOption r (AllWithin (λ q. end q ≢ after) list 0 (length list))
    (λ i. (i < length list) × HoldsAt (λ q. end q ≡ after) list i × AllWithin (λ q. end q ≢ after) list 0 i)
    → unwrap_or r (length list) ≡ shared_to (goes_on (λ i. end (get_or list i 0)) after) (length list)
goes_until list end after order None h = on_all (λ i. end (get_or list i 0)) after (length list) (λ k m. h k 0 (omega arith) m)
goes_until list end after order (Some i) h =
    rest_closes (λ i. end (get_or list i 0)) after (length list) order i (h.1 0) (omega (arith, h.0))
    (on_all (λ i. end (get_or list i 0)) after i (λ k b. h.2 k 0 (omega arith) b))
