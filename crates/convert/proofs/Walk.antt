-- The walks over the reads: one read as the loops meet it, and what it adds.
use Prim.Native.Nat.{ℕ, zero, suc, ◌+◌, ◌*◌, ◌≤◌, ◌<◌}
use mathlib.Core.Bool.{Bool, true, false, cond}
use mathlib.Core.List.{List, [], ◌++◌, append-nil}
use mathlib.Core.Logic.{◌≢◌}
use mathlib.Core.Path.{◌≡◌, refl, sym, ap, ◌∙◌}
use native.Mathlib.Numerals.{add-one}
use native.Mathlib.Nat.{add-zero, le_of_eq}
use native.Mathlib.Omega.{arith}
use lib.ListN.{length, length-append}
use lib.Dec.{ltb, eqb}
use borrow.Author.Tests.{lt-ltb, le-ltb, eqb-true, eqb-false}
use Rattle.meaning.specs.Numbers.{bit, bytes_of}
use Rattle.meaning.specs.Block.{Read, Matrix}
use Rattle.meaning.specs.Active.{read}
use Rattle.meaning.specs.Call.{laid}
use Rattle.meaning.specs.Kept.{filled}
use Rattle.meaning.specs.Convert.{read_bytes}
use Rattle.meaning.proofs.Rooms.{laid_join}
use Rattle.meaning.proofs.Written.{length-cells}
use Rattle.convert.specs.Walked.{bytes_to, kept_to}
use Rattle.convert.proofs.Parts.{laid_none}

length-read : (r : Read) → length (read_bytes r) ≡ 4 + 3 * length r.cells
unfolding read_bytes bytes_of
length-read r = omega (arith, length-cells r.cells)

module _ (M : Matrix) where
  -- a read without cells adds nothing, another one its bytes
  pub bytes_skip : (r : ℕ) → length (read M r).cells ≤ 0 → (bytes_to M (r + 1) ≡ bytes_to M r) × (kept_to M (r + 1) ≡ kept_to M r)
  unfolding bytes_to kept_to filled
  bytes_skip r h =
      let e : ltb 0 (length (read M r).cells) ≡ false = le-ltb 0 (length (read M r).cells) h in (
        ap (bytes_to M) (add-one r) ∙ ap (λ (x : Bool). bytes_to M r ++ cond x (read_bytes (read M r)) []) e ∙ append-nil (bytes_to M r),
        ap (kept_to M) (add-one r) ∙ ap (λ (x : Bool). kept_to M r + bit x) e ∙ add-zero (kept_to M r),
      )

  pub bytes_take : (r : ℕ) → 0 < length (read M r).cells → (bytes_to M (r + 1) ≡ bytes_to M r ++ read_bytes (read M r)) × (kept_to M (r + 1) ≡ kept_to M r + 1)
      × (length (bytes_to M (r + 1)) ≡ length (bytes_to M r) + (4 + 3 * length (read M r).cells))
  unfolding bytes_to kept_to filled
  bytes_take r h =
      let e : ltb 0 (length (read M r).cells) ≡ true = lt-ltb 0 (length (read M r).cells) h in
      let s : bytes_to M (r + 1) ≡ bytes_to M r ++ read_bytes (read M r) = ap (bytes_to M) (add-one r) ∙ ap (λ (x : Bool). bytes_to M r ++ cond x (read_bytes (read M r)) []) e in (
        s,
        ap (kept_to M) (add-one r) ∙ ap (λ (x : Bool). kept_to M r + bit x) e,
        ap length s ∙ length-append (bytes_to M r) (read_bytes (read M r)) ∙ ap (λ (k : ℕ). length (bytes_to M r) + k) (length-read (read M r)),
      )

  -- fewer reads take no more bytes
  pub bytes_below : (r n : ℕ) → r ≤ n → length (bytes_to M r) ≤ length (bytes_to M n)
  unfolding bytes_to
  bytes_below r zero h = le_of_eq (ap (λ (k : ℕ). length (bytes_to M k)) (let z : r ≡ 0 = omega arith in z))
  bytes_below r (suc n) h = go (eqb r (suc n)) refl (bytes_below r n)
    where
      go : (t : Bool) → eqb r (suc n) ≡ t → (r ≤ n → length (bytes_to M r) ≤ length (bytes_to M n)) → length (bytes_to M r) ≤ length (bytes_to M (suc n))
      go true e ih = le_of_eq (ap (λ (k : ℕ). length (bytes_to M k)) (eqb-true r (suc n) e))
      go false e ih =
          let ne : r ≢ suc n = eqb-false r (suc n) e in
          let x : length (bytes_to M r) ≤ length (bytes_to M n) = ih (omega arith) in
          let s = length-append (bytes_to M n) (cond (filled (read M n)) (read_bytes (read M n)) []) in
          omega arith

  -- the reads that are written, none and one more
  pub reads_none : (l : List ℕ) → l ≡ laid 9 (bytes_to M 0) l
  unfolding bytes_to
  reads_none l = sym (laid_none l 9)

  pub reads_more : (l : List ℕ) (r to : ℕ) → 0 < length (read M r).cells → to ≡ 9 + length (bytes_to M r) → 9 + length (bytes_to M r) ≤ length l
      → laid to (read_bytes (read M r)) (laid 9 (bytes_to M r) l) ≡ laid 9 (bytes_to M (r + 1)) l
  reads_more l r to h e f =
      ap (λ (k : ℕ). laid k (read_bytes (read M r)) (laid 9 (bytes_to M r) l)) e
      ∙ laid_join 9 (bytes_to M r) (read_bytes (read M r)) l f
      ∙ ap (λ (x : List ℕ). laid 9 x l) (sym (bytes_take r h).0)
