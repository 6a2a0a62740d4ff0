-- 56 and 57: sides compared with ours, then letters with those reported for the same sides.
use Prim.Native.Nat.{ℕ, zero, suc, ◌+◌, ◌-◌, ◌*◌, ◌<◌}
use mathlib.Core.Bool.{Bool, true, false, cond, not, ◌||◌}
use mathlib.Core.List.{List}
use mathlib.Core.Path.{◌≡◌, refl, sym, ap, ap₂, ◌∙◌}
use native.Mathlib.Nat.{add-zero, add-suc}
use native.Mathlib.Omega.{arith}
use lib.ListN.{length, get_or, take, drop}
use lib.Seq.{get_or-take, get_or-drop, ext_get_or}
use lib.Dec.{eqb}
use Rattle.meaning.specs.Numbers.{bit, any_to}
use Rattle.meaning.specs.Block.{Matrix}
use Rattle.meaning.specs.Active.{count}
use Rattle.meaning.specs.Division.{Side, Division}
use Rattle.meaning.specs.Charge.{W, charge, best}
use Rattle.meaning.specs.Letters.{general, reported}
use Rattle.meaning.specs.Answer.{sides_of, division_of, answer}
use Rattle.meaning.specs.Judge.{stated_reads, stated_columns, stated_division, other_answer}
use Rattle.meaning.proofs.Lists.{length_run}
use Rattle.meaning.proofs.AnswerBytes.{answer-side, answer-letter}
use Rattle.layout.proofs.Tests.{none_at}
use Rattle.meaning.proofs.SidesRead.{sides_division}
use Rattle.stated.specs.Stated.{Sized, other_letter_at, other_letters}
use Rattle.stated.proofs.Marks.{any_ext, part_length, equal}

-- a test at some of j + k places, or on one of two sides
any_split : (j k : ℕ) (f : ℕ → Bool) → any_to (j + k) f ≡ (any_to j f || any_to k (λ i. f (j + i)))
unfolding any_to
any_split j zero f = ap (λ (n : ℕ). any_to n f) (add-zero j) ∙ or_none (any_to j f)
  where
    or_none : (b : Bool) → b ≡ (b || false)
    or_none true = refl
    or_none false = refl
any_split j (suc k) f = ap (λ (n : ℕ). any_to n f) (add-suc j k) ∙ ap (λ (b : Bool). b || f (j + k)) (any_split j k f) ∙ assoc (any_to j f) _ _
  where
    assoc : (a b c : Bool) → ((a || b) || c) ≡ (a || (b || c))
    assoc true b c = refl
    assoc false b c = refl

any_or : (n : ℕ) (f g : ℕ → Bool) → (any_to n f || any_to n g) ≡ any_to n (λ i. f i || g i)
unfolding any_to
any_or zero f g = refl
any_or (suc n) f g = middle (any_to n f) (f n) (any_to n g) (g n) ∙ ap (λ (b : Bool). b || (f n || g n)) (any_or n f g)
  where
    middle : (a b c d : Bool) → ((a || b) || (c || d)) ≡ ((a || c) || (b || d))
    middle true b c d = refl
    middle false false c d = refl
    middle false true true d = refl
    middle false true false d = refl

module _ (M : Matrix) (a : List ℕ) (m n : ℕ) (sized : Sized a m n) (columns : m ≡ M.columns) (reads : n ≡ count M)
    (ours : List ℕ) (is : ours ≡ sides_of M (best charge M)) where
  -- the builder's sides, as a part of the answer
  abbrev theirs : List ℕ
  theirs = take (17 + n - 17) (drop 17 a)

  abbrev differs : ℕ → Bool
  differs i = not (eqb (get_or a (17 + i) 0) (get_or (answer general M) (17 + i) 0))

  pub ours_length : length ours ≡ n
  unfolding sides_of
  ours_length = ap length is ∙ length_run 0 (count M) (λ r. bit (best charge M r)) ∙ sym reads

  their_side : (i : ℕ) → i < n → get_or theirs i 0 ≡ get_or a (17 + i) 0
  their_side i l = get_or-take (17 + n - 17) (drop 17 a) i 0 (omega arith) ∙ get_or-drop 17 a i 0

  sides_differ : (i : ℕ) → i < n → not (eqb (get_or theirs i 0) (get_or ours i 0)) ≡ differs i
  sides_differ i l = ap₂ (λ (x y : ℕ). not (eqb x y)) (their_side i l) (ap (λ (xs : List ℕ). get_or xs i 0) is ∙ sym (answer-side general M i (omega arith)))

  -- sides first, then the letters of both haplotypes
  split : other_answer M a ≡ (any_to n differs || any_to (2 * m) (λ i. differs (n + i)))
  unfolding other_answer
  split = ap₂ (λ (x y : ℕ). any_to (x + 2 * y) differs) (sym reads) (sym columns) ∙ any_split n (2 * m) differs

  module _ (r : Bool) (told : r ≡ any_to (length ours) (λ i. not (eqb (get_or theirs i 0) (get_or ours i 0)))) where
    sides_told : r ≡ any_to n differs
    sides_told = told ∙ ap (λ (k : ℕ). any_to k (λ i. not (eqb (get_or theirs i 0) (get_or ours i 0)))) ours_length ∙ any_ext n _ _ sides_differ

    pub other_sides_told : r ≡ true → r ≡ other_answer M a
    other_sides_told e = e ∙ sym (split ∙ ap (λ (b : Bool). b || any_to (2 * m) (λ i. differs (n + i))) (sym sides_told ∙ e))

    module _ (same : r ≡ false) where
      same_sides : theirs ≡ ours
      same_sides =
          let size : length theirs ≡ n = part_length a 17 (17 + n) n (omega (arith, sized.whole)) refl in
          ext_get_or 0 theirs ours (size ∙ sym ours_length)
          (λ i l. equal _ _ (none_at (length ours) (λ k. not (eqb (get_or theirs k 0) (get_or ours k 0))) (sym told ∙ same) i (omega (arith, ours_length))))

      same_division : stated_division a ≡ best charge M
      same_division =
          ap (λ (k : ℕ). division_of (take k (drop 17 a))) (let z : stated_reads a ≡ 17 + n - 17 = omega (arith, sized.reads) in z)
          ∙ ap division_of (same_sides ∙ is)
          ∙ sides_division charge M

      letters_differ : (s : Side) (j : ℕ) → j < m → differs (n + (cond s m 0 + j)) ≡ other_letter_at M a j s
      letters_differ s j l =
          ap₂ (λ (x y : ℕ). not (eqb x y))
          (ap (λ (k : ℕ). get_or a k 0) (place s))
          (ap (λ (k : ℕ). get_or (answer general M) k 0) (our_place s) ∙ answer-letter general M s j (omega arith) ∙ ap (λ (d : Division). reported general (W M d j) s) (sym same_division))
        where
          place : (s : Side) → 17 + (n + (cond s m 0 + j)) ≡ 17 + stated_reads a + cond s (stated_columns a) 0 + j
          place true = omega (arith, sized.reads, sized.columns)
          place false = omega (arith, sized.reads)

          our_place : (s : Side) → 17 + (n + (cond s m 0 + j)) ≡ 17 + count M + cond s M.columns 0 + j
          our_place true = omega arith
          our_place false = omega arith

      pub same_sides_told : (q : Bool) → q ≡ other_letters M a → q ≡ other_answer M a
      unfolding other_letters
      same_sides_told q h =
          h
          ∙ ap (λ (k : ℕ). any_to k (λ j. other_letter_at M a j false || other_letter_at M a j true)) (sym columns)
          ∙ sym (any_or m (λ j. other_letter_at M a j false) (λ j. other_letter_at M a j true))
          ∙ sym (ap₂ ◌||◌ (first ∙ any_ext m _ _ (letters_differ false)) (any_ext m _ _ (letters_differ true)))
          ∙ sym (any_split m m (λ i. differs (n + i)))
          ∙ ap (λ (k : ℕ). any_to k (λ i. differs (n + i))) (let z : m + m ≡ 2 * m = omega arith in z)
          ∙ sym (split ∙ ap (λ (b : Bool). b || any_to (2 * m) (λ i. differs (n + i))) (sym sides_told ∙ same))
        where
          first : any_to m (λ i. differs (n + i)) ≡ any_to m (λ i. differs (n + (0 + i)))
          first = any_ext m _ _ (λ i l. ap (λ (k : ℕ). differs (n + k)) (let z : i ≡ 0 + i = omega arith in z))
