-- Plain numbers of reads that are ready: how large their columns, table and lists are.
use Prim.Native.Nat.{ℕ, zero, suc, ◌+◌, ◌-◌, ◌*◌, ◌≤◌, ◌<◌, zero-le}
use mathlib.Core.Path.{◌≡◌, sym, ap, ◌∙◌, subst}
use mathlib.Core.Bool.{true}
use mathlib.Core.List.{List, []}
use native.Mathlib.Nat.{le_trans, le_of_eq, mul-le-mul_right, mul-le-mul}
use native.Mathlib.Omega.{arith}
use lib.ListN.{length, get_or}
use lib.Seq.{get_or-take}
use lib.Pow.{pow_mono, pow_pos}
use Rattle.std.proofs.lemmas.List.{length-take, get_or_default}
use Rattle.meaning.specs.Numbers.{max_to}
use Rattle.meaning.specs.Block.{Matrix}
use Rattle.meaning.specs.Active.{read, active, active_count, most_active, used, entries}
use Rattle.meaning.specs.Closing.{active_reads}
use Rattle.meaning.proofs.Lists.{has-get_or}
use Rattle.meaning.proofs.Closing.{Placed, length-active, active_lt, active_is}
use Rattle.meaning.proofs.Rooms.{used-room}
use Rattle.layout.specs.declared.runs.Place.{Place}
use Rattle.layout.specs.declared.runs.Column.{Column}
use Rattle.layout.specs.declared.shape.Shape.{Shape}
use Rattle.layout.specs.Reads.{matrix_in}
use Rattle.layout.specs.Lists.{no_reads, count_at, reads_at}
use Rattle.layout.specs.Ready.{Ready}
use Rattle.layout.proofs.Laws.{count_is, lawful_placed}

pub max-below : (n c : ℕ) (f : ℕ → ℕ) → ((i : ℕ) → i < n → f i ≤ c) → max_to n f ≤ c
unfolding max_to
max-below zero c f h = zero-le
max-below (suc n) c f h = let a : max_to n f ≤ c = max-below n c f (λ i l. h i (omega arith)) in let b : f n ≤ c = h n (omega arith) in omega arith

-- column j as the code reads it
abbrev pub column_at : List Column → ℕ → Column
column_at lists j = get_or lists j (record { count = 0; reads = [] })

-- a column that is there is what the definitions say of it
pub column_read : (lists : List Column) (j : ℕ) → j < length lists → column_at lists j ≡ get_or lists j no_reads
column_read lists j l = get_or_default lists j _ no_reads l

module _ (shape : Shape) (reads : List ℕ) (places : List Place) (lists : List Column) (ready : Ready shape reads places lists) where
  abbrev M : Matrix
  M = matrix_in shape reads

  pub ready_placed : Placed M
  ready_placed = lawful_placed shape reads ready.lawful

  pub few-entries : entries M ≤ 2048
  unfolding entries most_active
  few-entries =
      let h : max_to shape.m (active_count M) ≤ 12 =
      max-below shape.m 12 (active_count M) (λ i l. le_trans (le_of_eq (sym (length-active M ready_placed i))) (ready.piled.few i l)) in
      pow_mono {j = 11} (omega arith)

  pub some-entry : 0 < entries M
  unfolding entries
  some-entry = pow_pos (most_active M - 1)

  -- of column j, with t entries a column
  pub record ColumnSizes (j t : ℕ) : Type 0 where
    pub few-columns : shape.m ≤ 1024
    pub few-reads : shape.n ≤ 1024
    pub list-room : j < length lists
    pub counted : count_at lists j ≡ length (active_reads M j)
    pub few : count_at lists j ≤ 12
    pub some : 0 < t
    pub wide : t ≤ 2048
    pub fits : used (count_at lists j) ≤ t
    pub table-room : j * t + t ≤ shape.m * t
    pub table-size : shape.m * t ≤ 2097152

  pub column_sizes : (j t : ℕ) → j < shape.m → t ≡ entries M → ColumnSizes j t
  column_sizes j t l e =
      let c : shape.m ≤ 1024 = ready.lawful.few-columns in
      let p : count_at lists j ≡ length (active_reads M j) = (ready.piled.holds j l).counted in
      let w : t ≤ 2048 = subst (λ (x : ℕ). x ≤ 2048) (sym e) few-entries in
      let z : suc j * t ≤ shape.m * t = mul-le-mul_right t l in
      let y : shape.m * t ≤ 1024 * 2048 = mul-le-mul c w in
      record {
        few-columns = c;
        few-reads = ready.lawful.few-reads;
        list-room = omega (arith, ready.piled.room);
        counted = p;
        few = subst (λ (x : ℕ). x ≤ 12) (sym p) (ready.piled.few j l);
        some = subst (λ (x : ℕ). 0 < x) (sym e) some-entry;
        wide = w;
        fits = subst (λ (x : ℕ). used (count_at lists j) ≤ x) (sym e) (subst (λ (x : ℕ). used x ≤ entries M) (sym p) (used-room M ready_placed j l));
        table-room = omega arith;
        table-size = omega arith;
      }

  -- the reads of column j's list
  module _ (j : ℕ) (l : j < shape.m) where
    pub listed-fits : length (active_reads M j) ≤ length (reads_at lists j)
    listed-fits = omega (arith, length-take (length (active_reads M j)) (reads_at lists j), ap length (ready.piled.holds j l).listed)

    pub listed_at : (i : ℕ) → i < length (active_reads M j) → get_or (reads_at lists j) i 0 ≡ get_or (active_reads M j) i 0
    listed_at i k =
        sym (get_or-take (length (active_reads M j)) (reads_at lists j) i 0 k)
        ∙ ap (λ (x : List ℕ). get_or x i 0) (ready.piled.holds j l).listed

    pub listed-read : (i : ℕ) → i < length (active_reads M j) → get_or (active_reads M j) i 0 < shape.n
    listed-read i k =
        let r = get_or (active_reads M j) i 0 in
        subst (λ (n : ℕ). r < n) (count_is shape reads) (active_lt M j r (has-get_or (active_reads M j) i k))

    pub listed-active : (i : ℕ) → i < length (active_reads M j) → active (read M (get_or (active_reads M j) i 0)) j ≡ true
    listed-active i k = active_is M j (get_or (active_reads M j) i 0) (has-get_or (active_reads M j) i k)
