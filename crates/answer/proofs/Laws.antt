-- Bytes stored one behind the other are the parts of the answer block's head.
use mathlib.Core.Path.{◌≡◌, refl, sym, ap, ap₂, ◌∙◌}
use mathlib.Core.List.{List, [], ◌∷◌, ◌++◌, append_assoc}
use Prim.Native.Nat.{ℕ, ◌+◌, ◌*◌, ◌/◌, ◌%◌, ◌≤◌}
use native.Mathlib.Nat.{zero-add}
use native.Mathlib.Omega.{arith}
use lib.ListN.{length, take, drop, set, length-append}
use Rattle.std.specs.Int.{w16, w32, to_be_bytes}
use lib.Seq.{sets-eq, drop-drop}
use borrow.Rule.Slice.PartMut.{put_mid}
use Rattle.meaning.specs.Numbers.{bytes_of}
use Rattle.meaning.specs.Answer.{answer_bytes}
use Rattle.meaning.specs.Call.{laid, over}
use Rattle.meaning.proofs.Rooms.{laid_join, laid_before, laid_front}
use Rattle.answer.specs.Head.{head_bytes}

-- a part that is stored anew is laid there
pub part_laid : (l : List ℕ) (at k : ℕ) (b c : List ℕ) → b ≡ c → k ≡ length c → put_mid at k l b ≡ laid at c l
part_laid l at k b c e n = ap₂ (λ (x y : List ℕ). take at l ++ (x ++ y)) e (drop-drop k at l ∙ ap (λ (m : ℕ). drop (at + m) l) n)

-- the bytes of a word
pub word_bytes : (x : ℕ) → to_be_bytes w16 (x % 65536) ≡ bytes_of 2 x
unfolding bytes_of
word_bytes x = ap₂ (λ (a b : ℕ). a ∷ b ∷ []) (omega arith) (omega arith)

-- and of a long
pub long_bytes : (x : ℕ) → to_be_bytes w32 (x % 4294967296) ≡ bytes_of 4 x
unfolding bytes_of
long_bytes x =
    ap₂ (λ (a b : ℕ). a ∷ b ∷ x % 4294967296 / 256 % 256 ∷ x % 4294967296 % 256 ∷ []) (omega arith) (omega arith)
    ∙ ap₂ (λ (a b : ℕ). x / 256 / 256 / 256 % 256 ∷ x / 256 / 256 % 256 ∷ a ∷ b ∷ []) (omega arith) (omega arith)

-- the head's six parts
first-laid : (l : List ℕ) → 17 ≤ length l → set l 0 2 ≡ laid 0 (2 ∷ []) l
first-laid l h = sets-eq (2 ∷ []) l 0 (omega arith)

pub head_laid : (l : List ℕ) (cost flips n m : ℕ) → 17 ≤ length l
    → laid 15 (bytes_of 2 m) (laid 13 (bytes_of 2 n) (laid 9 (bytes_of 4 flips) (laid 5 (bytes_of 4 cost) (laid 1 (bytes_of 4 (12 + n + 2 * m)) (set l 0 2)))))
    ≡ laid 0 (head_bytes cost flips n m) l
unfolding bytes_of head_bytes
head_laid l cost flips n m h =
    let a : List ℕ = 2 ∷ bytes_of 4 (12 + n + 2 * m) in
    let b : List ℕ = a ++ bytes_of 4 cost in
    let c : List ℕ = b ++ bytes_of 4 flips in
    let d : List ℕ = c ++ bytes_of 2 n in
    let p1 : laid 1 (bytes_of 4 (12 + n + 2 * m)) (set l 0 2) ≡ laid 0 a l =
    ap (laid 1 (bytes_of 4 (12 + n + 2 * m))) (first-laid l h) ∙ laid_join 0 (2 ∷ []) (bytes_of 4 (12 + n + 2 * m)) l (omega arith) in
    let p2 : laid 5 (bytes_of 4 cost) (laid 0 a l) ≡ laid 0 b l = laid_join 0 a (bytes_of 4 cost) l (omega arith) in
    let p3 : laid 9 (bytes_of 4 flips) (laid 0 b l) ≡ laid 0 c l = laid_join 0 b (bytes_of 4 flips) l (omega arith) in
    let p4 : laid 13 (bytes_of 2 n) (laid 0 c l) ≡ laid 0 d l = laid_join 0 c (bytes_of 2 n) l (omega arith) in
    let p5 : laid 15 (bytes_of 2 m) (laid 0 d l) ≡ laid 0 (d ++ bytes_of 2 m) l = laid_join 0 d (bytes_of 2 m) l (omega arith) in
    ap (λ (x : List ℕ). laid 15 (bytes_of 2 m) (laid 13 (bytes_of 2 n) (laid 9 (bytes_of 4 flips) (laid 5 (bytes_of 4 cost) x)))) p1
    ∙ ap (λ (x : List ℕ). laid 15 (bytes_of 2 m) (laid 13 (bytes_of 2 n) (laid 9 (bytes_of 4 flips) x))) p2
    ∙ ap (λ (x : List ℕ). laid 15 (bytes_of 2 m) (laid 13 (bytes_of 2 n) x)) p3
    ∙ ap (laid 15 (bytes_of 2 m)) p4
    ∙ p5

-- the head in front of sides and both haplotypes is the answer block
module _ (cost flips n m : ℕ) (sides hap1 hap2 old : List ℕ) (e : length sides ≡ n) (f : length hap1 ≡ m) (g : length hap2 ≡ m) (fits : 17 + n + 2 * m ≤ length old) where
  bytes_are : head_bytes cost flips n m ++ ((sides ++ hap1) ++ hap2) ≡ answer_bytes cost flips sides hap1 hap2
  unfolding head_bytes answer_bytes bytes_of
  bytes_are =
      ap (λ (x : List ℕ). head_bytes cost flips n m ++ x) (append_assoc sides hap1 hap2)
      ∙ ap₂ (λ (x y : ℕ). head_bytes cost flips x y ++ (sides ++ (hap1 ++ hap2))) (sym e) (sym f)

  head_length : length (head_bytes cost flips n m) ≡ 17
  unfolding head_bytes bytes_of
  head_length = refl

  pub answer-laid : laid 0 (head_bytes cost flips n m) (laid (17 + n + m) hap2 (laid (17 + n) hap1 (laid 17 sides old))) ≡ over (answer_bytes cost flips sides hap1 hap2) old
  answer-laid =
      let p : laid (17 + n) hap1 (laid 17 sides old) ≡ laid 17 (sides ++ hap1) old =
      ap (λ (k : ℕ). laid (17 + k) hap1 (laid 17 sides old)) (sym e) ∙ laid_join 17 sides hap1 old (omega arith) in
      let q : 17 + n + m ≡ 17 + length (sides ++ hap1) = omega (arith, length-append sides hap1) in
      let r : laid (17 + n + m) hap2 (laid 17 (sides ++ hap1) old) ≡ laid 17 ((sides ++ hap1) ++ hap2) old =
      ap (λ (k : ℕ). laid k hap2 (laid 17 (sides ++ hap1) old)) q ∙ laid_join 17 (sides ++ hap1) hap2 old (omega (arith, length-append sides hap1)) in
      let all : List ℕ = (sides ++ hap1) ++ hap2 in
      let len : length all ≡ n + 2 * m = length-append (sides ++ hap1) hap2 ∙ omega (arith, length-append sides hap1) in
      ap (λ (x : List ℕ). laid 0 (head_bytes cost flips n m) (laid (17 + n + m) hap2 x)) p
      ∙ ap (laid 0 (head_bytes cost flips n m)) r
      ∙ ap (λ (k : ℕ). laid 0 (head_bytes cost flips n m) (laid k all old)) (sym (zero-add (length (head_bytes cost flips n m)) ∙ head_length))
      ∙ laid_before 0 (head_bytes cost flips n m) all old (omega (arith, head_length, len))
      ∙ ap (λ (x : List ℕ). laid 0 x old) bytes_are
      ∙ laid_front (answer_bytes cost flips sides hap1 hap2) old
