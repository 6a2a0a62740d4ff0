-- Where the reads of a list stand.
use Prim.Native.Nat.{ℕ, suc, ◌<◌}
use lib.ListN.{length, get_or, take, drop}
use lib.Seq.{split_at}
use mathlib.Core.Bool.{Bool, true, false, ◌||◌, true≢false, or-true}
use mathlib.Core.List.{List, ◌∷◌, ◌++◌}
use mathlib.Core.Logic.{◌≢◌}
use mathlib.Core.Path.{◌≡◌, sym, ap, ◌∙◌, subst}
use Rattle.meaning.specs.Numbers.{has}
use Rattle.meaning.proofs.Lists.{Distinct, distinct_apart, has-append, has_here, not_both}

pub has_middle : (r : ℕ) (xs ys : List ℕ) → has r (xs ++ (r ∷ ys)) ≡ true
has_middle r xs ys = has-append r xs (r ∷ ys) ∙ ap (λ (b : Bool). has r xs || b) (has_here r ys) ∙ or-true (has r xs)

pub ne_of_has : (q r : ℕ) (xs : List ℕ) → has q xs ≡ true → has r xs ≡ false → q ≢ r
ne_of_has q r xs m n p = true≢false (sym m ∙ ap (λ (x : ℕ). has x xs) p ∙ n)

-- a read stands but once in the list
pub not_before : (reads : List ℕ) → Distinct reads → (i : ℕ) → i < length reads → has (get_or reads i 0) (take i reads) ≡ false
not_before reads u i l =
    not_both (has r (take i reads))
    (λ m. true≢false (sym (has_here r (drop (suc i) reads)) ∙ distinct_apart (take i reads) (r ∷ drop (suc i) reads) (subst Distinct (split_at reads i 0 l) u) r m))
  where
    r : ℕ
    r = get_or reads i 0
