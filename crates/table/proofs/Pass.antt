-- What one column's pass writes is what the rule says.
use Prim.Native.Nat.{ℕ, zero, suc, ◌+◌, ◌-◌, ◌*◌, ◌^◌, ◌≤◌, ◌<◌, zero-le}
use mathlib.Core.Path.{◌≡◌, refl, sym, ap, ap₂, ◌∙◌}
use mathlib.Core.Bool.{Bool, true, false, cond, true≢false}
use mathlib.Core.List.{List}
use native.Mathlib.Nat.{mul-zero, mul_comm, mul-le-mul_right}
use native.Mathlib.Decide.{dec_le}
use native.Mathlib.Omega.{arith}
use lib.ListN.{length, get_or}
use lib.Dec.{ltb, eqb}
use borrow.Author.Tests.{ltb-true, lt-ltb, le-ltb}
use Rattle.meaning.specs.Numbers.{bit, has}
use Rattle.meaning.specs.Block.{Matrix, Read}
use Rattle.meaning.specs.Active.{count, read, end, active, used, entries}
use Rattle.meaning.specs.Closing.{active_reads}
use Rattle.meaning.specs.Division.{Division}
use Rattle.meaning.specs.Charge.{Sums, W, Charge, by_sums}
use Rattle.meaning.specs.Table.{pattern}
use Rattle.meaning.specs.Rule.{index_at, least_at, shared_reads, carried, column_from, rule_column, column_of}
use Rattle.meaning.proofs.Totals.{min_ext, sum_ext, sum_zero}
use Rattle.meaning.proofs.Lists.{run_ext_at, has-get_or, keep_none}
use Rattle.meaning.proofs.Closing.{Placed, active-cells, active-of, distinct_active, active_is, active_lt}
use Rattle.meaning.proofs.Index.{index-used}
use Rattle.meaning.proofs.Carried.{rows}
use Rattle.fold.specs.Turn.{side_at, fold_to, starts_before, shared_to, turn_at}
use Rattle.fold.proofs.Laws.{fold_is, shared-count}
use Rattle.sums.specs.Sums.{sums_with}
use Rattle.column.specs.Pass.{entry_at, passed}
use Rattle.column.proofs.Join.{Paired, sums_is}
use Rattle.table.specs.Taken.{shared_before, passed_over, TakenOver}

module _ (M : Matrix) (placed : Placed M) (j : ℕ) (w : List (List ℕ)) (turn taken : List ℕ) (paired : Paired M j w) (charged : Sums → ℕ) where
  -- the pass is the rule, if what each index takes over is what the rule says of its division
  pub pass_from : (before : Division → ℕ)
      → ((k : ℕ) → k < used (length (active_reads M j)) → get_or taken (fold_to turn k (length (active_reads M j))) 0 ≡ before (pattern (active_reads M j) k))
      → passed charged w turn taken (length (active_reads M j)) (entries M) ≡ column_from (by_sums charged) M j before
  unfolding passed entry_at column_from
  pass_from before h =
      run_ext_at 0 (entries M) (λ k a b. go k (ltb k (used (length (active_reads M j)))) refl)
    where
      go : (k : ℕ) (t : Bool) → ltb k (used (length (active_reads M j))) ≡ t
          → cond t (charged (sums_with w (length (active_reads M j)) (side_at k)) + get_or taken (fold_to turn k (length (active_reads M j))) 0) 0
          ≡ cond t (charged (W M (pattern (active_reads M j) k) j) + before (pattern (active_reads M j) k)) 0
      go k true e = ap₂ ◌+◌ (ap charged (sym (sums_is M placed j w paired k))) (h k (ltb-true k (used (length (active_reads M j))) e))
      go k false e = refl

-- the least of a class looks at the entries that the classes fill
pub least_parts : (a b : List ℕ) (step rows g n : ℕ) → g < step → 0 < n → step * rows ≡ n → ((k : ℕ) → k < n → get_or a k 0 ≡ get_or b k 0) → least_at step rows a g ≡ least_at step rows b g
unfolding least_at
least_parts a b step zero g n l z e h = let q : 0 ≡ n = sym (mul-zero step) ∙ e in absurd (let w : ⊥ = omega arith in w)
least_parts a b step (suc rows) g n l z e h =
    min_ext (suc rows - 1) (λ i k. h (g + i * step) (inside i k))
  where
    inside : (i : ℕ) → i ≤ suc rows - 1 → g + i * step < n
    inside i k =
        let x : suc i * step ≤ suc rows * step = mul-le-mul_right step (let y : suc i ≤ suc rows = omega arith in y) in
        let y : step * suc rows ≡ suc rows * step = mul_comm step (suc rows) in
        omega arith

-- a mask goes by which reads are shared
pub turn_ext : (a b : ℕ → Bool) (p i : ℕ) → i < p → ((q : ℕ) → q < p → a q ≡ b q) → turn_at a p i ≡ turn_at b p i
unfolding turn_at
turn_ext a b p i l h =
    let e : shared_to a i ≡ shared_to b i = sum_ext i (λ q k. ap bit (h q (omega arith))) in
    let f : shared_to a p ≡ shared_to b p = sum_ext p (λ q k. ap bit (h q k)) in
    ap (λ (t : Bool). cond t (cond (eqb (shared_to a i) 0) (used (shared_to a p) - 1) (2 ^ (shared_to a i - 1))) 0) (h i l)
    ∙ ap₂ (λ (x y : ℕ). cond (b i) (cond (eqb x 0) (used y - 1) (2 ^ (x - 1))) 0) e f

-- of the reads that are active at column i + 1 those that start before it are active at column i
pub starts-active : (r : Read) (i : ℕ) → active r (suc i) ≡ true → ltb r.first (suc i) ≡ active r i
starts-active r i a = go (active r i) refl
  where
    c : (0 < length r.cells) × (r.first ≤ suc i) × (suc i < end r)
    c = active-cells r (suc i) a

    go : (b : Bool) → active r i ≡ b → ltb r.first (suc i) ≡ b
    go true e = let d = active-cells r i e in lt-ltb r.first (suc i) (omega arith)
    go false e = le-ltb r.first (suc i) (late (dec_le r.first i))
      where
        late : Dec (r.first ≤ i) → suc i ≤ r.first
        late (yes x) = absurd (true≢false (sym (active-of r i x (let d = c in omega arith)) ∙ e))
        late (no x) = omega arith

module _ (M : Matrix) (i : ℕ) (first : ℕ → ℕ) (list : List ℕ)
    (listed : (q : ℕ) → q < length (active_reads M (suc i)) → get_or list q 0 ≡ get_or (active_reads M (suc i)) q 0)
    (firsts : (r : ℕ) → r < count M → first r ≡ (read M r).first) where
  -- the shared reads are those that start before the column
  pub starts-shared : (q : ℕ) → q < length (active_reads M (suc i)) → starts_before first list (suc i) q ≡ active (read M (get_or (active_reads M (suc i)) q 0)) i
  starts-shared q l =
      let r : ℕ = get_or (active_reads M (suc i)) q 0 in
      let m : has r (active_reads M (suc i)) ≡ true = has-get_or (active_reads M (suc i)) q l in
      ap (λ (x : ℕ). ltb (first x) (suc i)) (listed q l)
      ∙ ap (λ (x : ℕ). ltb x (suc i)) (firsts r (active_lt M (suc i) r m))
      ∙ starts-active (read M r) i (active_is M (suc i) r m)

  shared_is : shared_to (starts_before first list (suc i)) (length (active_reads M (suc i))) ≡ length (shared_reads M i)
  unfolding shared_reads
  shared_is =
      sum_ext (length (active_reads M (suc i))) (λ q l. ap bit (starts-shared q l))
      ∙ shared-count (λ r. active (read M r) i) (active_reads M (suc i))

  module _ (turn : List ℕ) (turned : (q : ℕ) → q < length (active_reads M (suc i)) → get_or turn q 0 ≡ turn_at (starts_before first list (suc i)) (length (active_reads M (suc i))) q) where
    pub fold_index : (k : ℕ) → fold_to turn k (length (active_reads M (suc i))) ≡ index_at (shared_reads M i) (pattern (active_reads M (suc i)) k)
    unfolding shared_reads
    fold_index k =
        fold_is (active_reads M (suc i)) (distinct_active M (suc i)) (λ r. active (read M r) i) turn
        (λ q l. turned q l ∙ turn_ext (starts_before first list (suc i)) (λ x. active (read M (get_or (active_reads M (suc i)) x 0)) i) (length (active_reads M (suc i))) q l starts-shared)
        k

-- no read starts before column 0
none_before : (first : ℕ → ℕ) (list : List ℕ) (q : ℕ) → starts_before first list 0 q ≡ false
none_before first list q = le-ltb (first (get_or list q 0)) 0 zero-le

-- the shared reads of any column
module _ (M : Matrix) (first : ℕ → ℕ) (list : List ℕ) (firsts : (r : ℕ) → r < count M → first r ≡ (read M r).first) where
  pub shared_before_lem : (j : ℕ) → ((q : ℕ) → q < length (active_reads M j) → get_or list q 0 ≡ get_or (active_reads M j) q 0)
      → shared_to (starts_before first list j) (length (active_reads M j)) ≡ length (shared_before M j)
  shared_before_lem zero listed = sum_zero (length (active_reads M 0)) (λ q l. ap bit (none_before first list q))
  shared_before_lem (suc i) listed = shared_is M i first list listed firsts

  pub fold_before : (j : ℕ) → ((q : ℕ) → q < length (active_reads M j) → get_or list q 0 ≡ get_or (active_reads M j) q 0)
      → (turn : List ℕ) → ((q : ℕ) → q < length (active_reads M j) → get_or turn q 0 ≡ turn_at (starts_before first list j) (length (active_reads M j)) q)
      → (k : ℕ) → fold_to turn k (length (active_reads M j)) ≡ index_at (shared_before M j) (pattern (active_reads M j) k)
  fold_before zero listed turn turned k =
      fold_is (active_reads M 0) (distinct_active M 0) (λ r. false) turn
      (λ q l. turned q l ∙ turn_ext (starts_before first list 0) (λ x. false) (length (active_reads M 0)) q l (λ x y. none_before first list x)) k
      ∙ ap (λ (l : List ℕ). index_at l (pattern (active_reads M 0) k)) (keep_none (λ r. false) (active_reads M 0) (λ q m. refl))
  fold_before (suc i) listed turn turned k = fold_index M i first list listed firsts turn turned k

  -- the pass of any column
  pub pass_over : (charged : Sums → ℕ) → Placed M → (j : ℕ) → ((q : ℕ) → q < length (active_reads M j) → get_or list q 0 ≡ get_or (active_reads M j) q 0)
      → (w : List (List ℕ)) (turn taken : List ℕ) → Paired M j w
      → ((q : ℕ) → q < length (active_reads M j) → get_or turn q 0 ≡ turn_at (starts_before first list j) (length (active_reads M j)) q)
      → passed charged w turn taken (length (active_reads M j)) (entries M) ≡ passed_over (by_sums charged) M j taken
  pass_over charged placed j listed w turn taken paired turned =
      pass_from M placed j w turn taken paired charged (λ d. get_or taken (index_at (shared_before M j) d) 0)
      (λ k l. ap (λ (x : ℕ). get_or taken x 0) (fold_before j listed turn turned k))

-- a column goes by what its entries take over
pub column_ext : (C : Charge) (M : Matrix) (j : ℕ) (f g : Division → ℕ) → ((d : Division) → f d ≡ g d) → column_from C M j f ≡ column_from C M j g
unfolding column_from
column_ext C M j f g h =
    run_ext_at 0 (entries M) (λ k a b. ap (λ (x : ℕ). cond (ltb k (used (length (active_reads M j)))) (C M j (pattern (active_reads M j) k) + x) 0) (h (pattern (active_reads M j) k)))

-- so the pass is the rule: at column 0, and at column i + 1 with what column i hands on
pub over_first : (C : Charge) (M : Matrix) (taken col : List ℕ) → get_or taken 0 0 ≡ 0 → passed_over C M 0 taken ≡ rule_column C M 0 col
unfolding rule_column
over_first C M taken col z = column_ext C M 0 (λ d. get_or taken 0 0) (λ d. 0) (λ d. z)

pub over_next : (C : Charge) (M : Matrix) (i : ℕ) (work taken : List ℕ) → TakenOver M i work taken → passed_over C M (suc i) taken ≡ rule_column C M (suc i) (column_of M work i)
unfolding rule_column carried
over_next C M i work taken h =
    column_ext C M (suc i) (λ d. get_or taken (index_at (shared_reads M i) d) 0) (carried M i (column_of M work i)) (λ d. h (index_at (shared_reads M i) d) (index-used (shared_reads M i) d))
