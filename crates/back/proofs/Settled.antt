-- Settling the closing reads one after the other gives the first sides with the least entry.
use Prim.Native.Nat.{ℕ, suc, ◌+◌, ◌-◌, ◌*◌, ◌/◌, ◌^◌, ◌≤◌, ◌<◌}
use borrow.Author.Tests.{eqb-true, eqb-false, ne_eqb, le-leb}
use lib.Bits.{bit_xor}
use lib.Dec.{eqb, leb}
use lib.ListN.{length, get_or, take, drop, set, take-append-drop}
use lib.Seq.{drop-cons, length-take-le, drop-length, get_or-take, get_or-set_same, get_or-set_other}
use mathlib.Core.Bool.{Bool, true, false, cond, not}
use mathlib.Core.List.{List, ◌∷◌, ◌++◌}
use mathlib.Core.Logic.{◌≢◌}
use mathlib.Core.Path.{◌≡◌, refl, sym, ap, ◌∙◌, ap₂, subst, fun_ext}
use native.Mathlib.Nat.{le_of_eq}
use native.Mathlib.Numerals.{add-one}
use native.Mathlib.Omega.{arith}
use Rattle.meaning.specs.Numbers.{bit, has}
use Rattle.meaning.specs.Active.{used}
use Rattle.meaning.specs.Division.{Side, Division, put, least_over, first_over}
use Rattle.meaning.specs.Rule.{index_at, entry_for, least_at}
use Rattle.meaning.proofs.Lists.{Distinct, has-get_or}
use Rattle.meaning.proofs.Least.{first-least, put_same}
use Rattle.meaning.proofs.Index.{index_at_ext, used_suc}
use Rattle.meaning.proofs.Carried.{least_class}
use Rattle.fold.proofs.Places.{ne_of_has, not_before}
use Rattle.meaning.specs.Answer.{division_of}
use Rattle.back.specs.Sides.{class_least, next_side}
use Rattle.back.proofs.Classes.{bit_one, one_side, bit_le, digit, exchanged, index_one, index_next, index-small}

-- the first read of the list gets side 0, unless side 1 leaves a lesser number
first_next : (r : ℕ) (rs : List ℕ) (f : Division → ℕ) (d : Division)
    → first_over (r ∷ rs) f d ≡ first_over rs f (put r (not (leb (least_over rs f (put r false d)) (least_over rs f (put r true d)))) d)
unfolding first_over
first_next r rs f d =
    ap₂ (λ (a b : ℕ). cond (leb a b) (first_over rs f (put r false d)) (first_over rs f (put r true d))) (first-least rs f (put r false d)) (first-least rs f (put r true d))
    ∙ go (leb (least_over rs f (put r false d)) (least_over rs f (put r true d)))
  where
    go : (b : Bool) → cond b (first_over rs f (put r false d)) (first_over rs f (put r true d)) ≡ first_over rs f (put r (not b) d)
    go true = refl
    go false = refl

put_other : (r q : ℕ) (s : Side) (d : Division) → q ≢ r → put r s d q ≡ d q
put_other r q s d n = ap (λ (b : Bool). cond b s (d q)) (ne_eqb q r n)

module _ (reads : List ℕ) (u : Distinct reads) where
  module _ (i : ℕ) (m : 0 < i) (l : i < length reads) (s : Side) (d : Division) where
    -- the next read's side does not reach the reads before it
    front_kept : (q : ℕ) → has q (take i reads) ≡ true → put (get_or reads i 0) s d q ≡ d q
    front_kept q h = put_other (get_or reads i 0) q s d (ne_of_has q (get_or reads i 0) (take i reads) h (not_before reads u i l))

    head_kept : put (get_or reads i 0) s d (get_or reads 0 0) ≡ d (get_or reads 0 0)
    head_kept =
        front_kept (get_or reads 0 0)
        (ap (λ (q : ℕ). has q (take i reads)) (sym (get_or-take i reads 0 0 m))
        ∙ has-get_or (take i reads) 0 (omega (arith, length-take-le i reads (omega arith))))

    index-put : index_at (take (i + 1) reads) (put (get_or reads i 0) s d) ≡ index_at (take i reads) d + bit (digit (d (get_or reads 0 0)) s) * 2 ^ (i - 1)
    index-put =
        index_next reads i m l (put (get_or reads i 0) s d)
        ∙ ap₂ (λ (a : ℕ) (b : Bool). a + bit b * 2 ^ (i - 1))
        (index_at_ext (take i reads) (put (get_or reads i 0) s d) d front_kept)
        (ap₂ digit head_kept (put_same (get_or reads i 0) s d))

  module _ (col : List ℕ) (long : length col ≡ used (length reads)) where
    -- what the reads after the i-th leave is the least entry of a class
    least_next : (i : ℕ) → i < length reads → (d : Division) → least_over (drop (suc i) reads) (entry_for reads col) d ≡ class_least col i (index_at (take (suc i) reads) d)
    least_next i l d = go (take (suc i) reads) (drop (suc i) reads) (take-append-drop (suc i) reads) (ap used (length-take-le (suc i) reads l) ∙ used_suc i)
      where
        go : (xs ys : List ℕ) → xs ++ ys ≡ reads → used (length xs) ≡ 2 ^ i → least_over ys (entry_for reads col) d ≡ class_least col i (index_at xs d)
        go xs ys e k =
            subst (λ (rs : List ℕ). least_over ys (entry_for rs col) d ≡ least_at (used (length xs)) (used (length rs) / used (length xs)) col (index_at xs d)) e
            (least_class xs ys (subst Distinct (sym e) u) d col)
            ∙ ap₂ (λ (n t : ℕ). least_at t (n / t) col (index_at xs d)) (sym long) k

    -- the first read's two sides have the same least entry
    first_zero : 0 < length reads → (d : Division)
        → first_over reads (entry_for reads col) d ≡ first_over (drop 1 reads) (entry_for reads col) (put (get_or reads 0 0) false d)
    first_zero l d =
        ap (λ (rs : List ℕ). first_over rs (entry_for reads col) d) (drop-cons reads 0 0 l)
        ∙ first_next (get_or reads 0 0) (drop 1 reads) (entry_for reads col) d
        ∙ ap (λ (b : Bool). first_over (drop 1 reads) (entry_for reads col) (put (get_or reads 0 0) (not b) d))
        (le-leb _ _ (le_of_eq (alone false ∙ sym (alone true))))
      where
        alone : (s : Side) → least_over (drop 1 reads) (entry_for reads col) (put (get_or reads 0 0) s d) ≡ class_least col 0 0
        alone s = least_next 0 l (put (get_or reads 0 0) s d) ∙ ap (class_least col 0) (index_one reads (put (get_or reads 0 0) s d))

    module _ (i : ℕ) (m : 0 < i) (l : i < length reads) (d : Division) (low head : ℕ)
        (low_is : low ≡ index_at (take i reads) d) (head_is : head ≡ bit (d (get_or reads 0 0))) where
      side_class : (s : Side) (h : ℕ) → h ≡ bit (digit (d (get_or reads 0 0)) s) → least_over (drop (suc i) reads) (entry_for reads col) (put (get_or reads i 0) s d) ≡ class_least col i (low + h * 2 ^ (i - 1))
      side_class s h e =
          least_next i l (put (get_or reads i 0) s d)
          ∙ ap (class_least col i) (ap (λ (n : ℕ). index_at (take n reads) (put (get_or reads i 0) s d)) (sym (add-one i)) ∙ index-put i m l s d ∙ ap₂ (λ (a b : ℕ). a + b * 2 ^ (i - 1)) (sym low_is) (sym e))

      -- any other read gets side 0, unless its class there has a greater least entry than that of side 1
      first_later : (side : ℕ) → side ≡ bit (next_side col low head i)
          → first_over (drop i reads) (entry_for reads col) d ≡ first_over (drop (i + 1) reads) (entry_for reads col) (put (get_or reads i 0) (eqb side 1) d)
      first_later side e =
          ap (λ (rs : List ℕ). first_over rs (entry_for reads col) d) (drop-cons reads i 0 l)
          ∙ first_next (get_or reads i 0) (drop (suc i) reads) (entry_for reads col) d
          ∙ ap₂ (λ (n : ℕ) (b : Side). first_over (drop n reads) (entry_for reads col) (put (get_or reads i 0) b d)) (sym (add-one i))
          (ap₂ (λ (a b : ℕ). not (leb a b)) (side_class false head (head_is ∙ on_zero (d (get_or reads 0 0)))) (side_class true (1 - head) (ap (λ (n : ℕ). 1 - n) head_is ∙ on_one (d (get_or reads 0 0))))
          ∙ sym (ap (λ (n : ℕ). eqb n 1) e ∙ bit_one (next_side col low head i)))
        where
          on_zero : (s : Side) → bit s ≡ bit (digit s false)
          on_zero true = refl
          on_zero false = refl

          on_one : (s : Side) → 1 - bit s ≡ bit (digit s true)
          on_one true = refl
          on_one false = refl

      index_later : (side : ℕ) → side ≤ 1 → low + bit_xor side head * 2 ^ (i - 1) ≡ index_at (take (i + 1) reads) (put (get_or reads i 0) (eqb side 1) d)
      index_later side k =
          ap₂ (λ (a n : ℕ). a + n * 2 ^ (i - 1)) low_is (ap₂ bit_xor (one_side side k) head_is ∙ exchanged (eqb side 1) (d (get_or reads 0 0)))
          ∙ sym (index-put i m l (eqb side 1) d)

-- a side written is a read put on it
written : (sides : List ℕ) (r x : ℕ) → r < length sides → division_of (set sides r x) ≡ put r (eqb x 1) (division_of sides)
written sides r x l = fun_ext (λ q. on q (eqb q r) refl)
  where
    on : (q : ℕ) (b : Bool) → eqb q r ≡ b → eqb (get_or (set sides r x) q 0) 1 ≡ cond b (eqb x 1) (eqb (get_or sides q 0) 1)
    on q true e = ap (λ (n : ℕ). eqb n 1) (ap (λ (n : ℕ). get_or (set sides r x) n 0) (eqb-true q r e) ∙ get_or-set_same sides r x 0 l)
    on q false e = ap (λ (n : ℕ). eqb n 1) (get_or-set_other sides r q x 0 (eqb-false q r e))

pub written_small : (sides : List ℕ) (r x : ℕ) → r < length sides → x ≤ 1 → ((q : ℕ) → get_or sides q 0 ≤ 1) → (q : ℕ) → get_or (set sides r x) q 0 ≤ 1
written_small sides r x l k h q = on (eqb q r) refl
  where
    on : (b : Bool) → eqb q r ≡ b → get_or (set sides r x) q 0 ≤ 1
    on true e = subst (λ (n : ℕ). n ≤ 1) (sym (ap (λ (n : ℕ). get_or (set sides r x) n 0) (eqb-true q r e) ∙ get_or-set_same sides r x 0 l)) k
    on false e = subst (λ (n : ℕ). n ≤ 1) (sym (get_or-set_other sides r q x 0 (eqb-false q r e))) (h q)

none_left : (reads : List ℕ) (f : Division → ℕ) (d : Division) → first_over (drop (length reads) reads) f d ≡ d
unfolding first_over
none_left reads f d = ap (λ (rs : List ℕ). first_over rs f d) (drop-length reads)

module _ (col reads : List ℕ) (s : ℕ) (before : List ℕ) where
  -- the first i reads have their sides, and low is their index: what is left to settle is the whole answer
  pub record Settling (sides : List ℕ) (low head i : ℕ) : Type 0 where
    pub low_is : low ≡ index_at (take i reads) (division_of sides)
    pub head_is : head ≡ bit (division_of sides (get_or reads 0 0))
    pub small : (r : ℕ) → get_or sides r 0 ≤ 1
    pub first : first_over (drop i reads) (entry_for reads col) (division_of sides) ≡ first_over (drop s reads) (entry_for reads col) (division_of before)

  pub settling_low : (sides : List ℕ) (low head i : ℕ) → i ≤ length reads → Settling sides low head i → low < used i
  settling_low sides low head i l h = subst (λ (n : ℕ). n < used i) (sym h.low_is) (index-small reads i l (division_of sides))

  pub settling_head : (sides : List ℕ) (low head i : ℕ) → Settling sides low head i → head ≤ 1
  settling_head sides low head i h = bit_le head (division_of sides (get_or reads 0 0)) h.head_is

  pub settling_more : Distinct reads → length col ≡ used (length reads) → (sides : List ℕ) (low head i : ℕ) → 0 < i → i < length reads → Settling sides low head i
      → (r side next : ℕ) → r ≡ get_or reads i 0 → r < length sides
      → side ≡ bit (next_side col low head i)
      → next ≡ low + bit_xor side head * 2 ^ (i - 1)
      → Settling (set sides r side) next head (i + 1)
  settling_more u long sides low head i m l h r side next er lr es en = record {
    low_is = en ∙ index_later reads u col long i m l d low head h.low_is h.head_is side k ∙ ap (index_at (take (i + 1) reads)) (sym now);
    head_is = h.head_is ∙ ap bit (sym (head_kept reads u i m l (eqb side 1) d) ∙ ap (λ (e : Division). e (get_or reads 0 0)) (sym now));
    small = written_small sides r side lr k h.small;
    first = ap (first_over (drop (i + 1) reads) (entry_for reads col)) now ∙ sym (first_later reads u col long i m l d low head h.low_is h.head_is side es) ∙ h.first;
  }
    where
      k : side ≤ 1
      k = bit_le side (next_side col low head i) es

      d : Division
      d = division_of sides

      now : division_of (set sides r side) ≡ put (get_or reads i 0) (eqb side 1) d
      now = written sides r side lr ∙ ap (λ (q : ℕ). put q (eqb side 1) d) er

  pub settling_all : (sides : List ℕ) (low head : ℕ) → Settling sides low head (length reads)
      → (r : ℕ) → get_or sides r 0 ≡ bit (first_over (drop s reads) (entry_for reads col) (division_of before) r)
  settling_all sides low head h r =
      one_side (get_or sides r 0) (h.small r) ∙ ap (λ (d : Division). bit (d r)) (sym (none_left reads (entry_for reads col) (division_of sides)) ∙ h.first)

  -- where no read closes
  pub settled_none : s ≡ length reads → ((r : ℕ) → get_or before r 0 ≤ 1)
      → (r : ℕ) → get_or before r 0 ≡ bit (first_over (drop s reads) (entry_for reads col) (division_of before) r)
  settled_none e h r =
      one_side (get_or before r 0) (h r)
      ∙ ap (λ (d : Division). bit (d r))
      (sym (ap (λ (n : ℕ). first_over (drop n reads) (entry_for reads col) (division_of before)) e ∙ none_left reads (entry_for reads col) (division_of before)))

  -- where every read closes the first gets side 0, and the others follow
  pub settled-first : Distinct reads → length col ≡ used (length reads) → 0 < length reads → s ≡ 0 → (r : ℕ) → r ≡ get_or reads 0 0 → r < length before
      → (after : List ℕ) → ((q : ℕ) → get_or after q 0 ≡ bit (first_over (drop 1 reads) (entry_for reads col) (division_of (set before r 0)) q))
      → (q : ℕ) → get_or after q 0 ≡ bit (first_over (drop s reads) (entry_for reads col) (division_of before) q)
  settled-first u long m z r e l after h q = h q ∙ ap (λ (d : Division). bit (d q)) (sym same)
    where
      same : first_over (drop s reads) (entry_for reads col) (division_of before) ≡ first_over (drop 1 reads) (entry_for reads col) (division_of (set before r 0))
      same =
          ap (λ (n : ℕ). first_over (drop n reads) (entry_for reads col) (division_of before)) z
          ∙ first_zero reads u col long m (division_of before)
          ∙ ap (first_over (drop 1 reads) (entry_for reads col)) (sym (written before r 0 l ∙ ap (λ (q : ℕ). put q false (division_of before)) e))
