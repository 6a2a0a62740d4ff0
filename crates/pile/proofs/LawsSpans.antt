-- The columns of a span, as a loop from its first to its last passes them. Assumes nothing.
use Prim.Native.Nat.{ℕ, ◌+◌, ◌≤◌, ◌<◌, max}
use mathlib.Core.Bool.{Bool, true, false, ◌&&◌, and-false}
use mathlib.Core.Logic.{◌≢◌}
use mathlib.Core.Path.{◌≡◌, refl, sym, ap, ap₂, ◌∙◌}
use native.Mathlib.Omega.{arith}
use borrow.Author.Tests.{leb-true, leb-false, ltb-true, ltb-false, le-leb, lt-ltb, le-ltb}
use lib.Dec.{leb, ltb}
use Rattle.pile.specs.Spans.{within}

-- where a loop from `from` to `to` stands, also where there is nothing to pass
pub record Passes (from to c : ℕ) : Type 0 where
  pub above : from ≤ c
  pub below : c ≤ max from to

pub passes_start : (from to : ℕ) → Passes from to from
passes_start from to = record { above = omega arith; below = omega arith }

pub passes_on : (from to c : ℕ) → Passes from to c → c < to → Passes from to (c + 1)
passes_on from to c p h = record { above = omega arith; below = omega arith }

module _ (from : ℕ) where
  pub within_none : (to j : ℕ) → to ≤ from → within from to j ≡ false
  within_none to j h = go (leb from j) refl
    where
      go : (b : Bool) → leb from j ≡ b → (b && ltb j to) ≡ false
      go true e = le-ltb j to (omega (arith, leb-true from j e))
      go false e = refl

  pub within_past : (to j : ℕ) → to ≤ j → within from to j ≡ false
  within_past to j h = ap (λ (b : Bool). leb from j && b) (le-ltb j to h) ∙ and-false (leb from j)

  pub within_in : (to j : ℕ) → from ≤ j → j < to → within from to j ≡ true
  within_in to j h g = ap₂ ◌&&◌ (le-leb from j h) (lt-ltb j to g)

  pub within_else : (c j : ℕ) → j ≢ c → within from (c + 1) j ≡ within from c j
  within_else c j ne = go (ltb j c) refl
    where
      go : (b : Bool) → ltb j c ≡ b → (leb from j && ltb j (c + 1)) ≡ (leb from j && ltb j c)
      go true e = ap (λ (b : Bool). leb from j && b) (lt-ltb j (c + 1) (omega (arith, ltb-true j c e)) ∙ sym e)
      go false e = ap (λ (b : Bool). leb from j && b) (le-ltb j (c + 1) (omega (arith, ltb-false j c e)) ∙ sym e)

  pub within_all : (to c j : ℕ) → Passes from to c → to ≤ c → within from c j ≡ within from to j
  within_all to c j p h = go (leb from to) refl
    where
      go : (b : Bool) → leb from to ≡ b → within from c j ≡ within from to j
      go true e = let f = leb-true from to e in let q : c ≡ to = omega arith in ap (λ (k : ℕ). within from k j) q
      go false e = let f = leb-false from to e in within_none c j (omega arith) ∙ sym (within_none to j (omega arith))
