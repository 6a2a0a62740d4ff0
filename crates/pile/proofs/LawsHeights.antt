-- How many reads are active at each column, and refusal 9. Assumes nothing.
use Prim.Native.Nat.{ℕ, zero, suc, ◌+◌, ◌-◌, ◌≤◌, ◌<◌, max, zero-le}
use mathlib.Core.Bool.{Bool, true, false, cond}
use mathlib.Core.List.{List}
use mathlib.Core.Logic.{◌≢◌}
use mathlib.Core.Path.{◌≡◌, refl, sym, ap, ap₂, ◌∙◌}
use native.Mathlib.Nat.{sub-zero}
use native.Mathlib.Numerals.{add-one}
use native.Mathlib.Omega.{arith}
use borrow.Author.Tests.{eqb-true, eqb-false, lt-ltb, le-ltb}
use lib.Dec.{ltb, eqb}
use lib.ListN.{length, get_or, take, set}
use lib.Seq.{get_or-take, get_or-set_same, get_or-set_other}
use Rattle.std.proofs.lemmas.List.{length-take}
use Rattle.meaning.specs.Numbers.{bit, sum_to, max_to}
use Rattle.meaning.specs.Block.{Matrix}
use Rattle.meaning.specs.Active.{count, read, active, active_count, most_active}
use Rattle.meaning.specs.Refusals.{Numbers, passed, crowded}
use Rattle.meaning.proofs.Totals.{sum_ext, sum_bound, max_above}
use Rattle.layout.specs.declared.runs.Column.{Column}
use Rattle.layout.specs.Lists.{no_reads, count_at}
use Rattle.pile.specs.Spans.{within, spans, height_at, Spanned}
use Rattle.pile.proofs.LawsSpans.{Passes, within_none, within_past, within_in, within_else, within_all}

bit_le : (b : Bool) → bit b ≤ 1
bit_le true = omega arith
bit_le false = omega arith

-- a column comes for column c, and the others' counts are g's already
pub count_set : (lists : List Column) (c : ℕ) (column : Column) (g : ℕ → ℕ) → c < length lists → column.count ≡ g c
    → (j : ℕ) → (j ≢ c → count_at lists j ≡ g j) → count_at (set lists c column) j ≡ g j
count_set lists c column g l e j h = go (eqb j c) refl
  where
    go : (b : Bool) → eqb j c ≡ b → count_at (set lists c column) j ≡ g j
    go true t = rw (eqb-true j c t) (ap (λ (x : Column). x.count) (get_or-set_same lists c column no_reads l) ∙ e)
    go false t =
        let ne : j ≢ c = eqb-false j c t in
        ap (λ (x : Column). x.count) (get_or-set_other lists c j column no_reads ne) ∙ h ne

-- one more in the count of each column of a span: what a loop over it has done at column c
abbrev pub Raised : (ℕ → ℕ) → ℕ → ℕ → (ℕ → ℕ) → Type 0
Raised before from c after = (j : ℕ) → after j ≡ before j + bit (within from c j)

pub raised_none : (before : ℕ → ℕ) (from : ℕ) → Raised before from from before
raised_none before from j = omega (arith, ap bit (within_none from from j (omega arith)))

pub raised_here : (before after : ℕ → ℕ) (from c : ℕ) → Raised before from c after → after c ≡ before c
raised_here before after from c h = omega (arith, h c, ap bit (within_past from c c (omega arith)))

pub raised_more : (before : ℕ → ℕ) (lists : List Column) (from c : ℕ) (column : Column) → from ≤ c → c < length lists
    → column.count ≡ count_at lists c + 1 → Raised before from c (count_at lists) → Raised before from (c + 1) (count_at (set lists c column))
raised_more before lists from c column f l e h j =
    count_set lists c column (λ i. before i + bit (within from (c + 1) i)) l
    (omega (arith, e, raised_here before (count_at lists) from c h, ap bit (within_in from (c + 1) c f (omega arith))))
    j
    (λ ne. h j ∙ ap (λ (b : Bool). before j + bit b) (sym (within_else from c j ne)))

pub raised_all : (before after : ℕ → ℕ) (from to c : ℕ) → Passes from to c → to ≤ c
    → Raised before from c after → Raised before from to after
raised_all before after from to c p l h j = h j ∙ ap (λ (b : Bool). before j + bit b) (within_all from to c j p l)

module _ (first ends : ℕ → ℕ) where
  pub height_none : (j : ℕ) → height_at first ends 0 j ≡ 0
  unfolding height_at sum_to
  height_none j = refl

  pub height_more : (n j : ℕ) → height_at first ends (n + 1) j ≡ height_at first ends n j + bit (spans first ends n j)
  unfolding height_at sum_to
  height_more n j = rw add-one

  -- one read more
  pub heights_more : (r k from to : ℕ) (before after : ℕ → ℕ) → from ≡ first r → to ≡ ends r → Raised before from to after
      → ((j : ℕ) → j < k → before j ≡ height_at first ends r j) → (j : ℕ) → j < k → after j ≡ height_at first ends (r + 1) j
  heights_more r k from to before after f t h g j l =
      h j
      ∙ ap₂ (λ (x y : ℕ). before j + bit (within x y j)) f t
      ∙ ap (λ (x : ℕ). x + bit (spans first ends r j)) (g j l)
      ∙ sym (height_more r j)

  pub height_le : (n j : ℕ) → height_at first ends n j ≤ n
  unfolding height_at
  height_le n j = let h = sum_bound n 1 {f = λ r. bit (spans first ends r j)} (λ r l. bit_le (spans first ends r j)) in omega arith

-- an item among the first n of a run is one of the run's
pub record Taken {A : Type 0} (n : ℕ) (items : List A) (i : ℕ) : Type 0 where
  pub inside : i < n
  pub same : (d : A) → get_or (take n items) i d ≡ get_or items i d

pub taken : {A : Type 0} (n : ℕ) (items : List A) (i : ℕ) → i < length (take n items) → Taken n items i
taken n items i h = let l : i < n = omega (arith, length-take n items) in record { inside = l; same = λ d. get_or-take n items i d l }

-- the search for the first column with more than 12 has come to column j
pub record Searched (count : ℕ → ℕ) (m most j : ℕ) : Type 0 where
  pub inside : j ≤ m
  pub rest : crowded count j (m - j) ≡ crowded count 0 m
  pub largest : most ≡ max_to j count
  pub few : most ≤ 12

module _ (count : ℕ → ℕ) (m : ℕ) where
  pub searched_none : Searched count m 0 0
  unfolding max_to
  searched_none = record { inside = zero-le; rest = ap (crowded count 0) (sub-zero m); largest = refl; few = zero-le }

  pub searched_stop : (most j : ℕ) → Searched count m most j → j < m → 12 < count j → record { number = 9; second = j } ≡ crowded count 0 m
  unfolding crowded
  searched_stop most j s l h = let e : m - j ≡ suc (m - (j + 1)) = omega arith in rw (e, lt-ltb 12 (count j) h) at s.rest

  pub searched_more : (most next j : ℕ) → Searched count m most j → j < m → count j ≤ 12 → next ≡ max most (count j)
      → Searched count m next (j + 1)
  unfolding crowded max_to
  searched_more most next j s l h n =
      let e : m - j ≡ suc (m - suc j) = omega arith in
      let f = s.few in
      record {
        inside = omega arith;
        rest = rw add-one (rw (e, le-ltb 12 (count j) h) at s.rest);
        largest = rw add-one (n ∙ ap (λ (x : ℕ). max x (count j)) s.largest);
        few = omega arith;
      }

  pub searched_all : (most j : ℕ) → Searched count m most j → m ≤ j → (passed ≡ crowded count 0 m) × ((most ≡ max_to m count) × (most ≤ 12))
  unfolding crowded
  searched_all most j s l =
      let e : m - j ≡ 0 = omega arith in
      let q : j ≡ m = omega arith in
      (rw e at s.rest, (s.largest ∙ ap (λ (n : ℕ). max_to n count) q, s.few))

-- both look at the columns below m alone
crowded_ext : (f g : ℕ → ℕ) (j n : ℕ) → ((i : ℕ) → i < j + n → f i ≡ g i) → crowded f j n ≡ crowded g j n
unfolding crowded
crowded_ext f g j zero h = refl
crowded_ext f g j (suc n) h =
    ap₂ (λ (x : ℕ) (y : Numbers). cond (ltb 12 x) (record { number = 9; second = j }) y)
    (h j (omega arith))
    (crowded_ext f g (suc j) n (λ i l. h i (omega arith)))

max_ext : (n : ℕ) (f g : ℕ → ℕ) → ((i : ℕ) → i < n → f i ≡ g i) → max_to n f ≡ max_to n g
unfolding max_to
max_ext zero f g h = refl
max_ext (suc n) f g h = ap₂ max (max_ext n f g (λ i l. h i (omega arith))) (h n (omega arith))

-- where the most is at most 12, so is each
pub heights_low : (first ends heights : ℕ → ℕ) (n m a : ℕ) → a ≡ max_to m heights → a ≤ 12
    → ((j : ℕ) → j < m → heights j ≡ height_at first ends n j) → (j : ℕ) → j < m → height_at first ends n j ≤ 12
heights_low first ends heights n m a e few h j l = omega (arith, h j l, max_above m heights j l)

-- what the spans of a matrix say of its active reads
module _ (M : Matrix) (first after : ℕ → ℕ) (s : Spanned M first after) where
  pub spans_is : (r j : ℕ) → r < count M → spans first after r j ≡ active (read M r) j
  unfolding active
  spans_is r j l = ap₂ (λ (f e : ℕ). within f e j) (s.firsts r l) (s.ends r l)

  pub height_is : (j : ℕ) → height_at first after (count M) j ≡ active_count M j
  unfolding height_at active_count
  height_is j = sum_ext (count M) (λ r l. ap bit (spans_is r j l))

  -- refusal 9 and A, from the heights of the columns
  module _ (heights : ℕ → ℕ) (h : (j : ℕ) → j < M.columns → heights j ≡ height_at first after (count M) j) where
    pub crowded_is : crowded heights 0 M.columns ≡ crowded (active_count M) 0 M.columns
    crowded_is = crowded_ext heights (active_count M) 0 M.columns (λ j l. h j (omega arith) ∙ height_is j)

    pub most_is : max_to M.columns heights ≡ most_active M
    unfolding most_active
    most_is = max_ext M.columns heights (active_count M) (λ j l. h j l ∙ height_is j)
