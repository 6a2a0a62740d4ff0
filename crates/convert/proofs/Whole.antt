-- The whole block: header and reads are what is to be written, and what comes of it is the conversion.
use Prim.Native.Nat.{ℕ, zero, suc, ◌+◌, ◌≤◌, ◌<◌}
use mathlib.Core.Bool.{Bool, true, false, cond}
use mathlib.Core.List.{List, [], ◌∷◌, ◌++◌, append_assoc, append-nil}
use mathlib.Core.Logic.{◌≢◌}
use mathlib.Core.Path.{◌≡◌, refl, sym, ap, ap₂, ◌∙◌}
use native.Mathlib.Nat.{le_of_eq}
use native.Mathlib.Omega.{arith}
use lib.ListN.{length, take, length-append}
use lib.Seq.{take-suc, take_all}
use lib.Dec.{ltb}
use borrow.Author.Tests.{lt-ltb, le-ltb, ltb-true, ltb-false}
use Rattle.meaning.specs.Numbers.{bit, keep, bytes_of}
use Rattle.meaning.specs.Block.{Read, Matrix, no_read, version_field}
use Rattle.meaning.specs.Active.{count, read}
use Rattle.meaning.specs.Refusals.{Numbers, block_refusal}
use Rattle.meaning.specs.Call.{laid, over}
use Rattle.meaning.specs.Kept.{filled, without_empty}
use Rattle.meaning.specs.Convert.{read_bytes, reads_bytes, block_bytes, converted, converting}
use Rattle.meaning.proofs.Rooms.{laid_before, laid_front}
use Rattle.meaning.proofs.Convert.{version_one, convert_refused, convert_no_room, converts}
use Rattle.refusal.specs.declared.Refusal.{Refusal}
use Rattle.refusal.specs.Numbers.{refusal_number, refusal_second, refusal_numbers}
use Rattle.refusal.proofs.Told.{refusal-numbered}
use Rattle.layout.specs.declared.reads.Reads.{Reads}
use Rattle.layout.specs.Matrices.{matrix_of}
use Rattle.block.specs.Answers.{Passes}
use Rattle.convert.specs.Walked.{bytes_to, kept_to, head_bytes}
use Rattle.convert.specs.Outcomes.{writing}

keep_snoc : (rs : List Read) (r : Read) → keep filled (rs ++ (r ∷ [])) ≡ keep filled rs ++ cond (filled r) (r ∷ []) []
keep_snoc [] r = refl
keep_snoc (x ∷ rs) r = go (filled x) (keep_snoc rs r)
  where
    go : (b : Bool) → keep filled (rs ++ (r ∷ [])) ≡ keep filled rs ++ cond (filled r) (r ∷ []) []
        → cond b (x ∷ keep filled (rs ++ (r ∷ []))) (keep filled (rs ++ (r ∷ []))) ≡ cond b (x ∷ keep filled rs) (keep filled rs) ++ cond (filled r) (r ∷ []) []
    go true ih = ap (λ (l : List Read). x ∷ l) ih
    go false ih = ih

reads-append : (xs ys : List Read) → reads_bytes (xs ++ ys) ≡ reads_bytes xs ++ reads_bytes ys
unfolding reads_bytes
reads-append [] ys = refl
reads-append (x ∷ xs) ys = ap (λ (l : List ℕ). read_bytes x ++ l) (reads-append xs ys) ∙ sym (append_assoc (read_bytes x) (reads_bytes xs) (reads_bytes ys))

module _ (M : Matrix) where
  -- the first k reads, as the walks have them
  bytes_to_lem : (k : ℕ) → k ≤ count M → (bytes_to M k ≡ reads_bytes (keep filled (take k M.reads))) × (kept_to M k ≡ length (keep filled (take k M.reads)))
  unfolding bytes_to kept_to reads_bytes
  bytes_to_lem zero h = (refl, refl)
  bytes_to_lem (suc k) h =
      let ih = bytes_to_lem k (omega arith) in
      let rs : List Read = M.reads in
      let s : keep filled (take (suc k) rs) ≡ keep filled (take k rs) ++ cond (filled (read M k)) (read M k ∷ []) [] =
      ap (keep filled) (take-suc rs k no_read h) ∙ keep_snoc (take k rs) (read M k) in (
        ap₂ ◌++◌ ih.0 (one (filled (read M k)) (read M k)) ∙ sym (ap reads_bytes s ∙ reads-append (keep filled (take k rs)) _),
        ap₂ ◌+◌ ih.1 (bits (filled (read M k)) (read M k)) ∙ sym (ap length s ∙ length-append (keep filled (take k rs)) _),
      )
    where
      one : (t : Bool) (r : Read) → cond t (read_bytes r) [] ≡ reads_bytes (cond t (r ∷ []) [])
      one true r = sym (append-nil (read_bytes r))
      one false r = refl

      bits : (t : Bool) (r : Read) → bit t ≡ length (cond t (r ∷ []) [])
      bits true r = refl
      bits false r = refl

  head_length : (m n bytes : ℕ) → length (head_bytes m n bytes) ≡ 9
  unfolding head_bytes bytes_of
  head_length m n bytes = refl

  module _ (n : ℕ) (all : n ≡ count M) where
    bytes_all : (bytes_to M n ≡ reads_bytes (keep filled M.reads)) × (kept_to M n ≡ length (keep filled M.reads))
    bytes_all =
        let w = bytes_to_lem n (le_of_eq all) in
        let t : take n M.reads ≡ M.reads = take_all n M.reads (le_of_eq (sym all)) in
        (w.0 ∙ ap (λ (rs : List Read). reads_bytes (keep filled rs)) t, w.1 ∙ ap (λ (rs : List Read). length (keep filled rs)) t)

    -- the header, as the code has its numbers
    abbrev pub head : List ℕ
    head = head_bytes M.columns (kept_to M n) (length (bytes_to M n))

    written : head ++ bytes_to M n ≡ block_bytes (without_empty M)
    unfolding head_bytes bytes_of block_bytes
    written = ap₂ (λ (x : ℕ) (y : List ℕ). head_bytes M.columns x (length y) ++ y) bytes_all.1 bytes_all.0

    pub size_is : length (block_bytes (without_empty M)) ≡ 9 + length (bytes_to M n)
    size_is =
        ap length (sym written) ∙ length-append head (bytes_to M n)
        ∙ ap (λ (k : ℕ). k + length (bytes_to M n)) (head_length M.columns (kept_to M n) (length (bytes_to M n)))

    pub all_laid : (out : List ℕ) → 9 + length (bytes_to M n) ≤ length out → laid 0 head (laid 9 (bytes_to M n) out) ≡ over (block_bytes (without_empty M)) out
    all_laid out h =
        let z : length head ≡ 9 = head_length M.columns (kept_to M n) (length (bytes_to M n)) in
        ap (λ (k : ℕ). laid 0 head (laid k (bytes_to M n) out)) (let q : 9 ≡ 0 + length head = omega arith in q)
        ∙ laid_before 0 head (bytes_to M n) out (omega arith)
        ∙ ap (λ (x : List ℕ). laid 0 x out) written
        ∙ laid_front (block_bytes (without_empty M)) out

-- no room, and room
pub writing_none : (new out : List ℕ) (k : ℕ) → k ≡ length new → length out < k → record { number = 39; second = k; out = out } ≡ writing new out
unfolding writing
writing_none new out k e h =
    ap (λ (x : ℕ). record { number = 39; second = x; out = out }) e
    ∙ sym (ap (λ (t : Bool). cond t (record { number = 39; second = length new; out = out }) (record { number = 0; second = 0; out = over new out })) (lt-ltb (length out) (length new) (omega arith)))

pub writing-done : (new out : List ℕ) → length new ≤ length out → record { number = 0; second = 0; out = over new out } ≡ writing new out
unfolding writing
writing-done new out h =
    sym (ap (λ (t : Bool). cond t (record { number = 39; second = length new; out = out }) (record { number = 0; second = 0; out = over new out })) (le-ltb (length out) (length new) h))

module _ (b out : List ℕ) where
  -- a refusal of the block is the conversion's
  pub refused_converting : (e : Refusal) → refusal_numbers e ≡ block_refusal 1 b → record { number = refusal_number e; second = refusal_second e; out = out } ≡ converting b out
  refused_converting e = by_number (refusal_number e) (refusal_second e) (refusal-numbered e)
    where
      by_number : (number second : ℕ) → number ≢ 0 → record { number = number; second = second } ≡ block_refusal 1 b
          → record { number = number; second = second; out = out } ≡ converting b out
      by_number zero second n h = absurd (n refl)
      by_number (suc i) second n h = sym (convert_refused b out i second (sym h))

  -- and what comes of the reads of a block that passes
  pub passed-converting : (R : Reads) → version_field b ≡ 1 → Passes b R → writing (block_bytes (without_empty (matrix_of R))) out ≡ converting b out
  unfolding writing converted
  passed-converting R v p =
      ap (λ (M : Matrix). writing (block_bytes (without_empty M)) out) p.matrix_is
      ∙ go (ltb (length out) (length (converted b))) refl
    where
      passes : (block_refusal 1 b).number ≡ 0
      passes = ap (λ (x : Numbers). x.number) (version_one b v) ∙ p.formed

      go : (t : Bool) → ltb (length out) (length (converted b)) ≡ t
          → cond t (record { number = 39; second = length (converted b); out = out }) (record { number = 0; second = 0; out = over (converted b) out }) ≡ converting b out
      go true e = sym (convert_no_room b out passes (ltb-true (length out) (length (converted b)) e))
      go false e = sym (converts b out passes (ltb-false (length out) (length (converted b)) e))
