-- One column of the way back, said of the definitions with the code's own terms.
use Prim.Native.Nat.{ℕ, zero, suc, ◌+◌, ◌*◌, ◌≤◌, ◌<◌}
use mathlib.Core.Path.{◌≡◌, refl, sym, ap, ap₂, ◌∙◌, subst, fun_ext}
use mathlib.Core.Bool.{Bool, true, false, not}
use mathlib.Core.List.{List, [], ◌∷◌, ◌++◌}
use mathlib.Core.Logic.{◌≢◌}
use native.Mathlib.Numerals.{add-one}
use native.Mathlib.Omega.{arith}
use lib.ListN.{length, get_or, drop, length-drop}
use lib.Seq.{get_or-take, length-take-le, drop_at}
use lib.Dec.{eqb}
use borrow.Author.Tests.{eq-eqb, ne_eqb}
use Rattle.meaning.specs.Numbers.{bit, sum_to, has}
use Rattle.meaning.specs.Block.{Matrix}
use Rattle.meaning.specs.Active.{count, read, active, end, used, entries}
use Rattle.meaning.specs.Closing.{active_reads, closing_at}
use Rattle.meaning.specs.Division.{Division, first_over}
use Rattle.meaning.specs.Answer.{division_of}
use Rattle.meaning.specs.Rule.{entry_for, shared_reads, column_of, way_back}
use Rattle.meaning.proofs.Totals.{sum_ext}
use Rattle.meaning.proofs.Lists.{sum_over, has-get_or, has_here, has_more, has-keep, and_right, Distinct}
use Rattle.meaning.proofs.Least.{first_ext}
use Rattle.meaning.proofs.Closing.{active_split, active-cells, active_is, active_lt, ends_at, distinct_active}
use Rattle.meaning.proofs.Index.{index-used}
use Rattle.column.proofs.Join.{sum_places}
use Rattle.layout.specs.declared.runs.Place.{Place}
use Rattle.layout.specs.declared.runs.Column.{Column}
use Rattle.layout.specs.declared.shape.Shape.{Shape}
use Rattle.layout.specs.Reads.{matrix_in}
use Rattle.layout.specs.Places.{end_at}
use Rattle.layout.specs.Ready.{Ready}
use Rattle.layout.proofs.Laws.{count_is}
use Rattle.table.proofs.Sizes.{column_sizes}
use Rattle.table.proofs.Columns.{listed, height_is}
use Rattle.sides.specs.Ways.{column_entries}

sum-append : (xs ys : List ℕ) (f : ℕ → ℕ) → sum_over (xs ++ ys) f ≡ sum_over xs f + sum_over ys f
sum-append [] ys f = omega arith
sum-append (x ∷ xs) ys f = omega (arith, sum-append xs ys f)

sum_all : (xs : List ℕ) (f : ℕ → ℕ) (c : ℕ) → ((q : ℕ) → has q xs ≡ true → f q ≡ c) → sum_over xs f ≡ length xs * c
sum_all [] f c h = omega arith
sum_all (x ∷ xs) f c h = omega (arith, h x (has_here x xs), sum_all xs f c (λ q m. h q (has_more q x xs m)))

-- whether a read does not end after column j
abbrev goes : Matrix → ℕ → ℕ → ℕ
goes M j r = bit (not (eqb (end (read M r)) (suc j)))

-- a shared read does not end there
shared_goes : (M : Matrix) (j q : ℕ) → has q (shared_reads M j) ≡ true → end (read M q) ≢ suc j
unfolding shared_reads
shared_goes M j q m =
    let c = active-cells (read M q) (suc j)
    (active_is M (suc j) q (and_right (active (read M q) j) (has q (active_reads M (suc j))) (sym (has-keep (λ r. active (read M r) j) q (active_reads M (suc j))) ∙ m))) in
    λ e. omega arith

going : (M : Matrix) (j : ℕ) → j < M.columns → sum_over (active_reads M j) (goes M j) ≡ length (shared_reads M j)
going M j l =
    ap (λ (x : List ℕ). sum_over x (goes M j)) (active_split M j l)
    ∙ sum-append (shared_reads M j) (closing_at M j) (goes M j)
    ∙ omega (arith, sum_all (shared_reads M j) (goes M j) 1 on, sum_all (closing_at M j) (goes M j) 0 off)
  where
    on : (q : ℕ) → has q (shared_reads M j) ≡ true → goes M j q ≡ 1
    on q m = ap (λ (b : Bool). bit (not b)) (ne_eqb (end (read M q)) (suc j) (shared_goes M j q m))

    off : (q : ℕ) → has q (closing_at M j) ≡ true → goes M j q ≡ 0
    off q m = ap (λ (b : Bool). bit (not b)) (eq-eqb (end (read M q)) (suc j) (ends_at M j q m))

-- where f is e all over the second list and nowhere in the first, a place with e has e behind it
next_has : (xs ys : List ℕ) (f : ℕ → ℕ) (e : ℕ) → ((q : ℕ) → has q xs ≡ true → f q ≢ e) → ((q : ℕ) → has q ys ≡ true → f q ≡ e)
    → (i : ℕ) → suc i < length (xs ++ ys) → f (get_or (xs ++ ys) i 0) ≡ e → f (get_or (xs ++ ys) (suc i) 0) ≡ e
next_has [] ys f e out inside i l h = inside (get_or ys (suc i) 0) (has-get_or ys (suc i) l)
next_has (x ∷ xs) ys f e out inside zero l h = absurd (out x (has_here x xs) h)
next_has (x ∷ xs) ys f e out inside (suc i) l h = next_has xs ys f e (λ q m. out q (has_more q x xs m)) inside i (omega arith) h

-- behind a read that closes at column j all close there
next_closes : (M : Matrix) (j : ℕ) → j < M.columns → (i : ℕ) → suc i < length (active_reads M j)
    → end (read M (get_or (active_reads M j) i 0)) ≡ suc j → end (read M (get_or (active_reads M j) (suc i) 0)) ≡ suc j
next_closes M j l =
    subst (λ (x : List ℕ). (i : ℕ) → suc i < length x → end (read M (get_or x i 0)) ≡ suc j → end (read M (get_or x (suc i) 0)) ≡ suc j) (sym (active_split M j l))
    (next_has (shared_reads M j) (closing_at M j) (λ q. end (read M q)) (suc j) (shared_goes M j) (ends_at M j))

module _ (shape : Shape) (reads : List ℕ) (places : List Place) (lists : List Column) (ready : Ready shape reads places lists) where
  abbrev M : Matrix
  M = matrix_in shape reads

  ends_are : (r : ℕ) → r < count M → end_at places r ≡ end (read M r)
  ends_are r l = ready.noted.ends r (subst (λ (n : ℕ). r < n) (count_is shape reads) l)

  module _ (j : ℕ) (l : j < shape.m) (list : List ℕ) (here : list ≡ active_reads M j) where
    -- the ends that the list's reads have
    ends-listed : (i : ℕ) → i < length (active_reads M j) → end_at places (get_or list i 0) ≡ end (read M (get_or (active_reads M j) i 0))
    ends-listed i k =
        let r : ℕ = get_or (active_reads M j) i 0 in
        ap (λ (x : ℕ). end_at places x) (listed shape reads places lists ready j l list here i) ∙ ends_are r (active_lt M j r (has-get_or (active_reads M j) i k))

    -- those that close stand behind those that go on
    pub closes_behind : (i : ℕ) → i + 1 < length list → end_at places (get_or list i 0) ≡ j + 1
        → end_at places (get_or list (i + 1) 0) ≡ j + 1
    closes_behind i k h =
        let many : length list ≡ length (active_reads M j) = height_is shape reads places lists ready j l list here in
        ap (λ (n : ℕ). end_at places (get_or list n 0)) (add-one i)
        ∙ ends-listed (suc i) (omega arith)
        ∙ next_closes M j l i (omega arith) (sym (ends-listed i (omega arith)) ∙ h ∙ add-one j)
        ∙ sym (add-one j)

    -- those that go on are the shared reads
    pub going_is : (s : ℕ) → s ≡ sum_to (length list) (λ i. bit (not (eqb (end_at places (get_or list i 0)) (j + 1)))) → s ≡ length (shared_reads M j)
    going_is s h =
        h
        ∙ sum_ext (length list) (λ i k. each i (subst (λ (x : ℕ). i < x) (height_is shape reads places lists ready j l list here) k))
        ∙ ap (λ (n : ℕ). sum_to n (λ i. goes M j (get_or (active_reads M j) i 0))) (height_is shape reads places lists ready j l list here)
        ∙ sym (sum_places (active_reads M j) (goes M j))
        ∙ going M j l
      where
        each : (i : ℕ) → i < length (active_reads M j) → bit (not (eqb (end_at places (get_or list i 0)) (j + 1))) ≡ goes M j (get_or (active_reads M j) i 0)
        each i k = ap₂ (λ (x y : ℕ). bit (not (eqb x y))) (ends-listed i k) (add-one j)

    pub closing_is : (s : ℕ) → s ≡ length (shared_reads M j) → drop s list ≡ closing_at M j
    closing_is s e =
        ap (drop s) (here ∙ active_split M j l) ∙ drop_at (shared_reads M j) (closing_at M j) s (sym e)

    pub list_distinct : Distinct list
    list_distinct = subst Distinct (sym here) (distinct_active M j)

    module _ (work : List ℕ) where
      -- the column's entries, as many as its reads ask for
      pub entries-length : shape.m * entries M ≤ length work → length (column_entries M work j) ≡ used (length list)
      entries-length room =
          let z = column_sizes shape reads places lists ready j (entries M) l refl in
          let fits : used (length (active_reads M j)) ≤ entries M = subst (λ (x : ℕ). used x ≤ entries M) z.counted z.fits in
          let whole : length (column_of M work j) ≡ entries M = length-take-le (entries M) (drop (j * entries M) work) (omega (arith, z, length-drop (j * entries M) work)) in
          length-take-le _ (column_of M work j) (omega arith) ∙ sym (ap used (height_is shape reads places lists ready j l list here))

      -- what the column's reads get is one step of the way back
      pub settled : (s : ℕ) → s ≡ length (shared_reads M j) → (old new : List ℕ)
          → ((r : ℕ) → get_or new r 0 ≡ bit (first_over (drop s list) (entry_for list (column_entries M work j)) (division_of old) r))
          → (r : ℕ) → get_or new r 0 ≡ bit (first_over (closing_at M j) (entry_for (active_reads M j) (column_of M work j)) (division_of old) r)
      settled s g old new h r =
          h r
          ∙ ap₂ (λ (x y : List ℕ). bit (first_over x (entry_for y (column_entries M work j)) (division_of old) r)) (closing_is s g) here
          ∙ ap (λ (d : Division). bit (d r)) (first_ext (closing_at M j) (entry_for (active_reads M j) (column_entries M work j)) (entry_for (active_reads M j) (column_of M work j)) (division_of old)
          (λ d a. get_or-take _ (column_of M work j) _ 0 (index-used (active_reads M j) d)))

-- sides that are bits, and the division that they give
pub bits_division : (sides : List ℕ) (d : Division) → ((r : ℕ) → get_or sides r 0 ≡ bit (d r)) → division_of sides ≡ d
bits_division sides d h = fun_ext (λ r. ap (λ (x : ℕ). eqb x 1) (h r) ∙ back (d r))
  where
    back : (s : Bool) → eqb (bit s) 1 ≡ s
    back true = refl
    back false = refl

pub bits_small : (sides : List ℕ) (d : Division) → ((r : ℕ) → get_or sides r 0 ≡ bit (d r)) → (r : ℕ) → get_or sides r 0 ≤ 1
bits_small sides d h r = subst (λ (x : ℕ). x ≤ 1) (sym (h r)) (small (d r))
  where
    small : (s : Bool) → bit s ≤ 1
    small true = omega arith
    small false = omega arith

-- one column down
pub back_step : (M : Matrix) (col : ℕ → List ℕ) (j : ℕ) (old new : List ℕ) (whole : Division)
    → ((r : ℕ) → get_or new r 0 ≡ bit (first_over (closing_at M j) (entry_for (active_reads M j) (col j)) (division_of old) r))
    → way_back M col (suc j) (division_of old) ≡ whole → way_back M col j (division_of new) ≡ whole
unfolding way_back
back_step M col j old new whole h e = ap (way_back M col j) (bits_division new (first_over (closing_at M j) (entry_for (active_reads M j) (col j)) (division_of old)) h) ∙ e
