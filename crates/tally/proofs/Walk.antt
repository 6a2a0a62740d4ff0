-- The loop over the reads: one read more.
use Prim.Native.Nat.{ℕ, zero, suc, ◌+◌, ◌*◌, ◌≤◌}
use lib.Dec.{eqb}
use lib.ListN.{length, get_or, replicate}
use mathlib.Core.Bool.{Bool, true, false, cond, beq}
use mathlib.Core.List.{List}
use mathlib.Core.Path.{◌≡◌, refl, sym, ap, ap₂, ◌∙◌, subst}
use native.Mathlib.Numerals.{add-one}
use native.Mathlib.Omega.{arith}
use Rattle.meaning.specs.Numbers.{bit, sum_to}
use Rattle.meaning.specs.Block.{Read, Matrix}
use Rattle.meaning.specs.Active.{count, read, at}
use Rattle.meaning.specs.Division.{Side, Division}
use Rattle.meaning.specs.Charge.{Letter}
use Rattle.meaning.specs.Answer.{division_of}
use Rattle.meaning.proofs.Totals.{sum_bound}
use Rattle.meaning.proofs.Bounds.{Light}
use Rattle.meaning.proofs.Formed.{length-reads}
use Rattle.layout.specs.Matrices.{matrix_of}
use Rattle.layout.specs.declared.reads.Reads.{Reads}
use Rattle.layout.specs.Lists.{Thin}
use Rattle.layout.proofs.Laws.{lawful-light}
use Rattle.tally.specs.Tally.{unit, tally_of, tallied_to, place, Tallied, ReadAdded}

-- zeros all through
zeros : (n k : ℕ) → get_or (replicate {A = ℕ} n 0) k 0 ≡ 0
zeros zero k = refl
zeros (suc n) zero = refl
zeros (suc n) (suc k) = zeros n k

-- no weight is above 65,535
pub weights : (r : Reads) → Light (matrix_of r) 65535
weights r = lawful-light r.shape r.bytes.now r.lawful r.fit

-- the tally of the first r reads
abbrev pub Upto : Matrix → Division → ℕ → List ℕ → Type 0
Upto M d r t = (j : ℕ) (s : Side) (l : Letter) → get_or t (place j s l) 0 ≡ tallied_to M d r j s l

module _ (M : Matrix) (d : Division) where
  pub upto_none : (n : ℕ) (t : List ℕ) → t ≡ replicate n 0 → Upto M d 0 t
  unfolding tallied_to sum_to
  upto_none n t h j s l = rw h (zeros n (place j s l))

  tallied_more : (r j : ℕ) (s : Side) (l : Letter)
      → tallied_to M d (r + 1) j s l ≡ tallied_to M d r j s l + cond (beq (d r) s) (tally_of l (at (read M r) j)) 0
  unfolding tallied_to sum_to
  tallied_more r j s l = rw add-one

  pub upto_more : (r : ℕ) (x : Read) (side : Side) (old new : List ℕ) → x ≡ read M r → side ≡ d r
      → Upto M d r old → ReadAdded x side old new → Upto M d (r + 1) new
  upto_more r x side old new ex es h added j s l =
      added j s l
      ∙ ap₂ (λ (n : ℕ) (t : Side). n + cond (beq t s) (tally_of l (at x j)) 0) (h j s l) es
      ∙ ap (λ (y : Read). tallied_to M d r j s l + cond (beq (d r) s) (tally_of l (at y j)) 0) ex
      ∙ sym (tallied_more r j s l)

  -- 1,024 reads leave room
  pub upto_small : Light M 65535 → (r : ℕ) (t : List ℕ) → r ≤ 1024 → Upto M d r t
      → (j : ℕ) (s : Side) (l : Letter) → get_or t (place j s l) 0 ≤ 2000000000
  unfolding tallied_to tally_of
  upto_small light r t le h j s l =
      let bound : tallied_to M d r j s l ≤ r * 1114111 =
      sum_bound r 1114111 {f = λ q. cond (beq (d q) s) (tally_of l (at (read M q) j)) 0}
      (λ q k. go (beq (d q) s) (eqb (at (read M q) j).letter (bit l)) (at (read M q) j).weight (light q j)) in
      omega (arith, h j s l, bound)
    where
      go : (t e : Bool) (w : ℕ) → w ≤ 65535 → cond t (cond e (unit + w) 0) 0 ≤ 1114111
      go true true w k = omega arith
      go true false w k = omega arith
      go false e w k = omega arith

-- all reads
pub tallied_all : (r : Reads) → Thin (matrix_of r) → (sides t : List ℕ) → 4 * r.shape.m ≤ length t
    → (n : ℕ) → n ≡ r.shape.n → Upto (matrix_of r) (division_of sides) n t → Tallied (matrix_of r) sides t
tallied_all r thin sides t room n e h =
    let all : count (matrix_of r) ≡ r.shape.n = length-reads r.shape.size r.shape.n r.bytes.now in
    record {
      few-reads = omega (arith, all, r.lawful.few-reads);
      thin = thin;
      light = weights r;
      room = room;
      each = λ j l. subst (λ (n : ℕ). Upto (matrix_of r) (division_of sides) n t) (e ∙ sym all) h j;
    }
