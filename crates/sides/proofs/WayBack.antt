-- The way back as a loop over the columns, and the least entry of the last column.
use Prim.Native.Nat.{ℕ, zero, suc, ◌+◌, ◌-◌, ◌*◌, ◌/◌, ◌≤◌, ◌<◌}
use mathlib.Core.Path.{◌≡◌, refl, sym, ap, ap₂, ◌∙◌, subst}
use mathlib.Core.List.{List}
use native.Mathlib.Nat.{le_trans, zero-add}
use native.Mathlib.Omega.{arith}
use lib.ListN.{length, get_or, take, drop, length-append}
use lib.Seq.{get_or-take, take-take, ext_get_or}
use lib.Pow.{pow_pos}
use lib.Dec.{eqb}
use Rattle.meaning.specs.Numbers.{bit, run}
use Rattle.meaning.specs.Block.{Matrix}
use Rattle.meaning.specs.Active.{count, used, entries}
use Rattle.meaning.specs.Closing.{active_reads, closing_at}
use Rattle.meaning.specs.Division.{Division, first_over}
use Rattle.meaning.specs.Answer.{sides_of, division_of}
use Rattle.meaning.specs.Rule.{entry_for, least_at, least_entry, shared_reads, column_of, way_back}
use Rattle.meaning.proofs.Lists.{Distinct, length_run, get_or-run}
use Rattle.meaning.proofs.Closing.{active_split}
use Rattle.layout.specs.declared.runs.Place.{Place}
use Rattle.layout.specs.declared.runs.Column.{Column}
use Rattle.layout.specs.declared.shape.Shape.{Shape}
use Rattle.layout.specs.Reads.{matrix_in}
use Rattle.layout.specs.Places.{end_at}
use Rattle.layout.specs.Ready.{Ready}
use Rattle.table.proofs.Pass.{least_parts}
use Rattle.table.proofs.Sizes.{column_sizes}
use Rattle.table.proofs.Columns.{list-fits, list_read, height_is}
use Rattle.sides.specs.Ways.{column_entries}
use Rattle.sides.proofs.Back.{closes_behind, list_distinct, entries-length, bits_small, back_step}

-- sides that are bits of a division, n of them
sides-list : (M : Matrix) (sides : List ℕ) (d : Division) → length sides ≡ count M → ((r : ℕ) → get_or sides r 0 ≡ bit (d r)) → sides ≡ sides_of M d
unfolding sides_of
sides-list M sides d e h =
    ext_get_or 0 sides (run 0 (count M) (λ r. bit (d r))) (e ∙ sym (length_run 0 (count M) (λ r. bit (d r))))
    (λ r l. h r ∙ sym (get_or-run 0 (count M) (λ q. bit (d q)) r 0 (subst (λ (x : ℕ). r < x) e l) ∙ ap (λ (k : ℕ). bit (d k)) (zero-add r)))

-- a byte of 0 or 1 is the bit of its side
bit_back : (x : ℕ) → x ≤ 1 → x ≡ bit (eqb x 1)
bit_back zero h = refl
bit_back (suc zero) h = refl
bit_back (suc (suc x)) h = absurd (let w : ⊥ = omega arith in w)

module _ (M : Matrix) (col : ℕ → List ℕ) where
  -- one column down
  pub back_turn : (j : ℕ) (old new : List ℕ) (whole : Division) → 0 < j
      → ((r : ℕ) → get_or new r 0 ≡ bit (first_over (closing_at M (j - 1)) (entry_for (active_reads M (j - 1)) (col (j - 1))) (division_of old) r))
      → way_back M col j (division_of old) ≡ whole → ((r : ℕ) → get_or new r 0 ≤ 1) × (way_back M col (j - 1) (division_of new) ≡ whole)
  back_turn j old new whole p h e =
      let s : j ≡ suc (j - 1) = omega arith in (
        bits_small new (first_over (closing_at M (j - 1)) (entry_for (active_reads M (j - 1)) (col (j - 1))) (division_of old)) h,
        back_step M col (j - 1) old new whole h (subst (λ (k : ℕ). way_back M col k (division_of old) ≡ whole) s e),
      )

  -- below column 0 the sides are the whole way back's
  pub back_end : (j : ℕ) (sides : List ℕ) (whole : Division) → j ≤ 0 → length sides ≡ count M → ((r : ℕ) → get_or sides r 0 ≤ 1)
      → way_back M col j (division_of sides) ≡ whole → sides ≡ sides_of M whole
  unfolding way_back
  back_end zero sides whole z n small e = sides-list M sides (division_of sides) n (λ r. bit_back (get_or sides r 0) (small r)) ∙ ap (sides_of M) e
  back_end (suc j) sides whole z n small e = absurd (let w : ⊥ = omega arith in w)

module _ (shape : Shape) (reads : List ℕ) (places : List Place) (lists : List Column) (ready : Ready shape reads places lists) where
  abbrev M : Matrix
  M = matrix_in shape reads

  pub last_column : (0 < shape.m) × (shape.m - 1 < shape.m)
  last_column = let h : 0 < shape.m = ready.lawful.some-column in omega arith

  -- column j's entries, n of them with t a column, lie in the table, and are cut out of it
  pub record Cut (j t n : ℕ) (work : List ℕ) : Type 0 where
    pub inside : j * t + n ≤ shape.m * t
    pub small : shape.m * t ≤ 2097152
    pub whole : take (j * t + n - j * t) (drop (j * t) work) ≡ column_entries M work j

  pub cut : (j : ℕ) → j < shape.m → {list : List ℕ} {t n : ℕ} → list ≡ active_reads M j → t ≡ entries M → n ≡ used (length list)
      → (work : List ℕ) → Cut j t n work
  cut j l {list} {t} {n} here e f work =
      let sizes = column_sizes shape reads places lists ready j t l e in
      let many : n ≡ used (length (active_reads M j)) = f ∙ ap (λ (x : List ℕ). used (length x)) here in
      let fits : n ≤ t = subst (λ (x : ℕ). x ≤ t) (sym (many ∙ ap used (sym sizes.counted))) sizes.fits in
      record {
        inside = omega (arith, sizes);
        small = sizes.table-size;
        whole =
            ap₂ (λ (a b : ℕ). take a (drop (j * b) work)) (omega arith) e
            ∙ sym (take-take n (entries M) (drop (j * entries M) work) (omega arith))
            ∙ ap (λ (a : ℕ). take a (column_of M work j)) many;
      }

  module _ (j : ℕ) (l : j < shape.m) (list : List ℕ) (here : list ≡ active_reads M j) where
    -- what is asked to count the reads that go on
    pub going_fits : ((length list ≤ 12) × (j < 1024))
        × (((i : ℕ) → i < length list → get_or list i 0 < length places)
        × ((i : ℕ) → i + 1 < length list → end_at places (get_or list i 0) ≡ j + 1
        → end_at places (get_or list (i + 1) 0) ≡ j + 1))
    going_fits =
        let f = list-fits shape reads places lists ready j l list here in
        let placed : (i : ℕ) → i < length list → get_or list i 0 < length places =
        λ i k. le_trans (list_read shape reads places lists ready j l list here i k) ready.noted.room in
        ((f, omega (arith, ready.lawful.few-columns)), (placed, closes_behind shape reads places lists ready j l list here))

    module _ (work : List ℕ) (room : shape.m * entries M ≤ length work) where
      -- and to settle those that close
      pub settle_fits : (s : ℕ) → s ≡ length (shared_reads M j) → (sides : List ℕ) → shape.n ≤ length sides → ((r : ℕ) → get_or sides r 0 ≤ 1)
          → ((length list ≤ 12) × (s ≤ length list) × Distinct list)
          × (((i : ℕ) → i < length list → get_or list i 0 < length sides)
          × ((length (column_entries M work j) ≡ used (length list)) × ((r : ℕ) → get_or sides r 0 ≤ 1)))
      settle_fits s g sides many small =
          let a = list-fits shape reads places lists ready j l list here in
          let split : length (active_reads M j) ≡ length (shared_reads M j) + length (closing_at M j) =
          ap length (active_split M j (l)) ∙ length-append (shared_reads M j) (closing_at M j) in
          let h : length list ≡ length (active_reads M j) = height_is shape reads places lists ready j l list here in (
            (a, omega arith, list_distinct shape reads places lists ready j l list here),
            (
              λ i k. le_trans (list_read shape reads places lists ready j l list here i k) many,
              (entries-length shape reads places lists ready j l list here work room, small),
            ),
          )

  -- the least of column j's entries, all of one class
  module _ (j : ℕ) (l : j < shape.m) (work : List ℕ) (room : shape.m * entries M ≤ length work) where
    pub in_use : length (column_entries M work j) ≡ used (length (active_reads M j))
    in_use = entries-length shape reads places lists ready j l (active_reads M j) refl work room

    pub some : 0 < length (column_entries M work j)
    some = subst (λ (x : ℕ). 0 < x) (sym in_use) (pow_pos (length (active_reads M j) - 1))

    pub least_is : (x : ℕ) → x ≡ least_at 1 (length (column_entries M work j) / 1) (column_entries M work j) 0
        → x ≡ least_entry (active_reads M j) (column_of M work j)
    unfolding least_entry
    least_is x h =
        let n : ℕ = used (length (active_reads M j)) in
        let rows : length (column_entries M work j) / 1 ≡ n = let z = in_use in omega arith in
        h
        ∙ ap (λ (k : ℕ). least_at 1 k (column_entries M work j) 0) rows
        ∙ least_parts (column_entries M work j) (column_of M work j) 1 n 0 n (omega arith) (pow_pos (length (active_reads M j) - 1)) (omega arith)
        (λ k v. get_or-take n (column_of M work j) k 0 v)
