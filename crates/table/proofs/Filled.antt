-- The table's loop: column after column by the rule is the table, and no entry is too large.
use Prim.Native.Nat.{ℕ, zero, suc, ◌+◌, ◌-◌, ◌*◌, ◌/◌, ◌≤◌, ◌<◌, zero-le}
use mathlib.Core.Path.{◌≡◌, refl, sym, ap, ap₂, ◌∙◌, subst}
use mathlib.Core.Bool.{Bool, true, false, cond}
use mathlib.Core.List.{List, ◌++◌}
use native.Mathlib.Nat.{le_trans, le_of_eq, add-zero, zero-add, mul-le-mul_right, not-suc-le-zero}
use native.Mathlib.Numerals.{add-one}
use native.Mathlib.Decide.{dec_le}
use native.Mathlib.Omega.{arith}
use lib.ListN.{length, get_or, drop, get_or-eq_default}
use lib.Dec.{ltb}
use Rattle.meaning.specs.Block.{Matrix}
use Rattle.meaning.specs.Active.{used, entries}
use Rattle.meaning.specs.Closing.{active_reads}
use Rattle.meaning.specs.Charge.{Charge}
use Rattle.meaning.specs.Letters.{Mode, charge_in}
use Rattle.meaning.specs.Table.{entry, column, columns_to, table}
use Rattle.meaning.specs.Rule.{least_at, shared_reads, column_of, rule_column}
use Rattle.meaning.specs.Call.{over, laid}
use Rattle.meaning.proofs.Totals.{min-below}
use Rattle.meaning.proofs.Sums.{sums_local, sums_even}
use Rattle.meaning.proofs.Modes.{Fair}
use Rattle.meaning.proofs.Closing.{Placed}
use Rattle.meaning.proofs.Rooms.{length-column, length-columns, column-at, columns_part, laid_join, laid_front}
use Rattle.meaning.proofs.Rule.{rule_first, rule_next}
use Rattle.meaning.proofs.Bounds.{Bytes, entry_bound}
use Rattle.layout.specs.declared.runs.Place.{Place}
use Rattle.layout.specs.declared.runs.Column.{Column}
use Rattle.layout.specs.declared.shape.Shape.{Shape}
use Rattle.layout.specs.Reads.{matrix_in}
use Rattle.layout.specs.Ready.{Ready}
use Rattle.layout.proofs.Laws.{lawful-light, ready-thin}
use Rattle.table.specs.Taken.{TakenOver, TakenBefore, TakenFits, passed_over}
use Rattle.table.proofs.Pass.{over_first, over_next}
use Rattle.table.proofs.Sizes.{ready_placed, column_sizes}
use Rattle.table.proofs.Handed.{shared-fits}

module _ (mode : Mode) (fair : Fair mode) (M : Matrix) (placed : Placed M) (work : List ℕ) where
  -- column 0 in front of the room
  pub table-first : (col : List ℕ) → laid 0 (rule_column (charge_in mode) M 0 col) work ≡ over (columns_to (charge_in mode) M 1) work
  unfolding columns_to
  table-first col = ap (λ (x : List ℕ). laid 0 x work) (rule_first (charge_in mode) M (sums_local mode.charged M) (sums_even mode.charged fair.even M) placed col) ∙ laid_front (column (charge_in mode) M 0) work

  column_there : (i : ℕ) → column_of M (over (columns_to (charge_in mode) M (suc i)) work) i ≡ column (charge_in mode) M i
  column_there i =
      ap (λ (n : ℕ). column_of M (columns_to (charge_in mode) M n ++ drop (length (columns_to (charge_in mode) M (suc i))) work) i) (sym (add-zero (suc i)))
      ∙ columns_part (charge_in mode) M i 0 (drop (length (columns_to (charge_in mode) M (suc i))) work)

  -- column i + 1 behind those before it
  pub table_next : (i : ℕ) → suc i < M.columns → M.columns * entries M ≤ length work → (room : List ℕ) → room ≡ over (columns_to (charge_in mode) M (suc i)) work
      → laid (suc i * entries M) (rule_column (charge_in mode) M (suc i) (column_of M room i)) room ≡ over (columns_to (charge_in mode) M (suc (suc i))) work
  unfolding columns_to
  table_next i l fits room e =
      let xs : List ℕ = columns_to (charge_in mode) M (suc i) in
      let n : length xs ≡ suc i * entries M = length-columns (charge_in mode) M (suc i) in
      let y : suc (suc i) * entries M ≤ M.columns * entries M = mul-le-mul_right (entries M) l in
      ap₂ (λ (x r : List ℕ). laid (suc i * entries M) x r)
      (ap (λ (r : List ℕ). rule_column (charge_in mode) M (suc i) (column_of M r i)) e ∙ ap (rule_column (charge_in mode) M (suc i)) (column_there i) ∙ rule_next (charge_in mode) M (sums_local mode.charged M) (sums_even mode.charged fair.even M) placed i (omega arith))
      (e ∙ sym (laid_front xs work))
      ∙ ap (λ (k : ℕ). laid k (column (charge_in mode) M (suc i)) (laid 0 xs work)) (sym (zero-add (length xs) ∙ n))
      ∙ laid_join 0 xs (column (charge_in mode) M (suc i)) work (omega arith)
      ∙ laid_front (xs ++ column (charge_in mode) M (suc i)) work

  table-column : (i : ℕ) (room : List ℕ) → room ≡ over (columns_to (charge_in mode) M (suc i)) work → column_of M room i ≡ column (charge_in mode) M i
  table-column i room e = ap (λ (r : List ℕ). column_of M r i) e ∙ column_there i

-- what a column of small entries hands on is small
pub taken_fits : (M : Matrix) (i : ℕ) (work taken : List ℕ) → TakenOver M i work taken → used (length (shared_reads M i)) ≤ length taken
    → ((k : ℕ) → get_or (column_of M work i) k 0 ≤ 4000000000) → TakenFits M (suc i) taken
unfolding least_at
taken_fits M i work taken h room small =
    record {
      room = room;
      small = λ g l. le_trans (le_of_eq (h g l)) (le_trans (min-below (used (length (active_reads M i)) / used (length (shared_reads M i)) - 1) (λ r. get_or (column_of M work i) (g + r * used (length (shared_reads M i))) 0) 0 zero-le) (small (g + 0 * used (length (shared_reads M i)))));
    }

pub first_fits : (M : Matrix) (taken : List ℕ) → 0 < length taken → get_or taken 0 0 ≡ 0 → TakenFits M 0 taken
first_fits M taken room z =
    record { room = room; small = λ g l. let e : g ≡ 0 = omega arith in le_trans (le_of_eq (ap (λ (x : ℕ). get_or taken x 0) e ∙ z)) zero-le }

-- every entry of reads that are ready is at most 805,294,080
module _ (shape : Shape) (reads : List ℕ) (places : List Place) (lists : List Column) (ready : Ready shape reads places lists) where
  abbrev M : Matrix
  M = matrix_in shape reads

  module _ (mode : Mode) (fair : Fair mode) (bytes : Bytes reads) where
    entry-small : (j k : ℕ) → j < shape.m → entry (charge_in mode) M j k ≤ 805294080
    entry-small j k l =
        let h : entry (charge_in mode) M j k ≤ suc j * (12 * 65535) =
        entry_bound M 65535 (lawful-light shape reads ready.lawful bytes) mode fair 12 (ready-thin shape reads places lists ready) j k l in
        omega (arith, ready.lawful.few-columns)

    column-small : (j : ℕ) → j < shape.m → (k : ℕ) → get_or (column (charge_in mode) M j) k 0 ≤ 805294080
    column-small j l k = go (dec_le (suc k) (entries M))
      where
        pick : (t : Bool) → cond t (entry (charge_in mode) M j k) 0 ≤ 805294080
        pick true = entry-small j k l
        pick false = zero-le

        go : Dec (k < entries M) → get_or (column (charge_in mode) M j) k 0 ≤ 805294080
        go (yes h) = subst (λ (x : ℕ). x ≤ 805294080) (sym (column-at (charge_in mode) M j k h)) (pick (ltb k (used (length (active_reads M j)))))
        go (no h) =
            let n : length (column (charge_in mode) M j) ≡ entries M = length-column (charge_in mode) M j in
            subst (λ (x : ℕ). x ≤ 805294080) (sym (get_or-eq_default (column (charge_in mode) M j) 0 (omega arith))) zero-le

    -- and so is what the loop has written before column j
    pub before_small : (j : ℕ) → j < shape.m → (work room : List ℕ) → room ≡ over (columns_to (charge_in mode) M j) work
        → 0 < j → (k : ℕ) → get_or (column_of M room (j - 1)) k 0 ≤ 4000000000
    before_small zero l work room e h k = absurd (not-suc-le-zero h)
    before_small (suc i) l work room e h k =
        let p : i ≡ suc i - 1 = omega arith in
        let z : get_or (column (charge_in mode) M i) k 0 ≤ 4000000000 = le_trans (column-small i (omega arith) k) (omega arith) in
        subst (λ (x : ℕ). get_or (column_of M room x) k 0 ≤ 4000000000) p
        (subst (λ (x : List ℕ). get_or x k 0 ≤ 4000000000) (sym (table-column mode fair M (ready_placed shape reads places lists ready) work i room e)) z)

  -- what is taken over has room, and is small
  pub before_fits : (j t : ℕ) → j < shape.m → t ≡ entries M → (work taken : List ℕ) → t ≤ length taken
      → TakenBefore M j work taken → (0 < j → (k : ℕ) → get_or (column_of M work (j - 1)) k 0 ≤ 4000000000) → TakenFits M j taken
  before_fits zero t l f work taken room h small =
      first_fits M taken (le_trans (column_sizes shape reads places lists ready 0 t l f).some room) h
  before_fits (suc i) t l f work taken room h small =
      let e : suc i - 1 ≡ i = omega arith in
      taken_fits M i work taken h (le_trans (shared-fits shape reads places lists ready i (omega arith)) (le_trans (le_of_eq (sym f)) room))
      (subst (λ (x : ℕ). (k : ℕ) → get_or (column_of M work x) k 0 ≤ 4000000000) e (small (omega arith)))

-- column j from the one before it
pub before_over : (C : Charge) (M : Matrix) (j : ℕ) (work taken : List ℕ) → TakenBefore M j work taken → passed_over C M j taken ≡ rule_column C M j (column_of M work (j - 1))
before_over C M zero work taken h = over_first C M taken (column_of M work (0 - 1)) h
before_over C M (suc i) work taken h =
    let e : suc i - 1 ≡ i = omega arith in
    over_next C M i work taken h ∙ ap (λ (x : ℕ). rule_column C M (suc i) (column_of M work x)) (sym e)

-- the table's loop: none of its columns, one more, all
pub table_start : (C : Charge) (M : Matrix) (work : List ℕ) → work ≡ over (columns_to C M 0) work
unfolding columns_to
table_start C M work = refl

pub table_turn : (mode : Mode) → Fair mode → (M : Matrix) → Placed M → (j t : ℕ) → t ≡ entries M → j < M.columns → (work room new : List ℕ) → M.columns * t ≤ length work
    → room ≡ over (columns_to (charge_in mode) M j) work
    → new ≡ laid (j * t) (rule_column (charge_in mode) M j (column_of M room (j - 1))) room → new ≡ over (columns_to (charge_in mode) M (j + 1)) work
table_turn mode fair M placed zero t e l work room new fits r h =
    let z : 0 * t ≡ 0 = omega arith in
    h ∙ ap₂ (λ (n : ℕ) (w : List ℕ). laid n (rule_column (charge_in mode) M 0 (column_of M room (0 - 1))) w) z (r ∙ sym (table_start (charge_in mode) M work)) ∙ table-first mode fair M placed work (column_of M room (0 - 1))
table_turn mode fair M placed (suc i) t e l work room new fits r h =
    let p : suc i - 1 ≡ i = omega arith in
    h
    ∙ ap₂ (λ (x y : ℕ). laid (suc i * y) (rule_column (charge_in mode) M (suc i) (column_of M room x)) room) p e
    ∙ table_next mode fair M placed work i l (subst (λ (x : ℕ). M.columns * x ≤ length work) e fits) room r
    ∙ ap (λ (x : ℕ). over (columns_to (charge_in mode) M x) work) (sym (add-one (suc i)))

pub table-end : (C : Charge) (M : Matrix) (j : ℕ) (work last : List ℕ) → j ≡ M.columns → last ≡ over (columns_to C M j) work → last ≡ over (table C M) work
unfolding table
table-end C M j work last e h = h ∙ ap (λ (x : ℕ). over (columns_to C M x) work) e
