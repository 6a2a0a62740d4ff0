-- From where the reads lie to the lists: the heights, check 9 and T, and that the reads are ready.
use Prim.Native.Nat.{ℕ, ◌-◌, ◌*◌, ◌≤◌, ◌<◌, min}
use mathlib.Core.Path.{◌≡◌, sym, ap, ◌∙◌, subst}
use mathlib.Core.Bool.{Bool, true, false}
use mathlib.Core.List.{List}
use native.Mathlib.Nat.{le_trans, le_of_eq, mul-le-mul}
use native.Mathlib.Omega.{arith}
use lib.ListN.{length}
use lib.Pow.{pow_mono}
use Rattle.meaning.specs.Numbers.{bit, max_to}
use Rattle.meaning.specs.Block.{Matrix}
use Rattle.meaning.specs.Active.{count, read, active, active_count, most_active, used, entries}
use Rattle.meaning.specs.Refusals.{Numbers, crowded}
use Rattle.meaning.proofs.Totals.{sum_bound}
use Rattle.meaning.proofs.Closing.{length-active}
use Rattle.meaning.proofs.Closing as closing
use Rattle.layout.specs.declared.runs.Place.{Place}
use Rattle.layout.specs.declared.runs.Column.{Column}
use Rattle.layout.specs.declared.shape.Shape.{Shape}
use Rattle.layout.specs.declared.reads.Reads.{Reads}
use Rattle.layout.specs.declared.reads.Placed.{Placed}
use Rattle.layout.specs.Reads.{matrix_in}
use Rattle.layout.specs.Matrices.{matrix_of}
use Rattle.layout.specs.Places.{first_at, end_at, Noted}
use Rattle.layout.specs.Lists.{Holds}
use Rattle.layout.specs.Ready.{Ready}
use Rattle.layout.proofs.Laws.{count_is, lawful_placed}
use Rattle.pile.specs.Spans.{height_at, list_at, Spanned}
use Rattle.pile.proofs.LawsHeights.{height_is, heights_low, crowded_is, most_is}
use Rattle.pile.proofs.LawsClosing.{held_is}
use Rattle.table.proofs.Sizes.{max-below}
use Rattle.ready.specs.Piling.{Piling, ThinColumns}

-- T is no more than what so many reads take
pub entries-room : (M : Matrix) (t n : ℕ) → count M ≡ n → ThinColumns M t → t ≤ used (min n 12)
unfolding entries most_active active_count
entries-room M t n e h =
    let each : (j : ℕ) → active_count M j ≤ count M * 1 = λ j. sum_bound (count M) 1 (λ r k. bit_one (active (read M r) j)) in
    let some : most_active M ≤ min n 12 = max-below M.columns (min n 12) (active_count M) (λ j k. omega (arith, each j, e, h.thin j k)) in
    le_trans (le_of_eq h.entries_are) (pow_mono {j = min n 12 - 1} (omega arith))
  where
    bit_one : (t : Bool) → bit t ≤ 1
    bit_one true = omega arith
    bit_one false = omega arith

-- a table has at most 2^21 entries
pub table_fits : (s : Shape) (reads : List ℕ) (t : ℕ) → ThinColumns (matrix_in s reads) t → s.m * t ≤ 2097152
table_fits s reads t h =
    let w : t ≤ 2048 = le_trans (entries-room (matrix_in s reads) t s.n (count_is s reads) h) (pow_mono {j = 11} (omega arith)) in
    let y : s.m * t ≤ 1024 * 2048 = mul-le-mul s.few_columns w in
    omega arith

-- lawful reads whose places are noted
pub piling : (reads : Reads) {places : List Place} {lists : List Column} → Noted reads.shape reads.bytes.now places
    → reads.shape.m ≤ length lists → Piling reads.shape reads.bytes.now places lists
piling reads noted room = record { lawful = reads.lawful; noted = noted; room = room }

module _ (s : Shape) (reads : List ℕ) (places : List Place) (lists : List Column) (p : Piling s reads places lists) where
  abbrev M : Matrix
  M = matrix_in s reads

  placed : closing.Placed M
  placed = lawful_placed s reads p.lawful

  -- the spans that are noted are the matrix's
  spanned : Spanned M (first_at places) (end_at places)
  spanned =
      record {
        firsts = λ r l. p.noted.firsts r (subst (λ (x : ℕ). r < x) (count_is s reads) l);
        ends = λ r l. p.noted.ends r (subst (λ (x : ℕ). r < x) (count_is s reads) l);
      }

  height_active : (j : ℕ) → height_at (first_at places) (end_at places) s.n j ≡ active_count M j
  height_active j =
      ap (λ (x : ℕ). height_at (first_at places) (end_at places) x j) (sym (count_is s reads)) ∙ height_is M (first_at places) (end_at places) spanned j

  pub ends-inside : (r : ℕ) → r < s.n → end_at places r ≤ s.m
  ends-inside r l = le_trans (le_of_eq (p.noted.ends r l)) (placed r (subst (λ (x : ℕ). r < x) (sym (count_is s reads)) l))

  -- with other lists in a room of the same size
  pub piling_lists : (lists' : List Column) → length lists' ≡ length lists → Piling s reads places lists'
  piling_lists lists' e = record { lawful = p.lawful; noted = p.noted; room = omega (arith, e, p.room) }

  -- 9 and T, from the heights
  module _ (heights : ℕ → ℕ) (h : (j : ℕ) → j < s.m → heights j ≡ height_at (first_at places) (end_at places) s.n j) where
    in_matrix : (j : ℕ) → j < s.m → heights j ≡ height_at (first_at places) (end_at places) (count M) j
    in_matrix j l = h j l ∙ ap (λ (x : ℕ). height_at (first_at places) (end_at places) x j) (sym (count_is s reads))

    pub crowded_found : (x : Numbers) → x ≡ crowded heights 0 s.m → crowded (active_count M) 0 s.m ≡ x
    crowded_found x e = sym (crowded_is M (first_at places) (end_at places) spanned heights in_matrix) ∙ sym e

    pub thin_found : (a t : ℕ) → (a ≡ max_to s.m heights) × (a ≤ 12) → t ≡ used a → ThinColumns M t
    unfolding entries
    thin_found a t w e =
        record {
          thin = λ j l. le_trans (le_of_eq (sym (height_active j))) (heights_low (first_at places) (end_at places) heights s.n s.m a w.0 w.1 h j l);
          entries_are = e ∙ ap used (w.0 ∙ most_is M (first_at places) (end_at places) spanned heights in_matrix);
        }

  -- where no column is crowded
  module _ (t : ℕ) (h : ThinColumns M t) where
    pub heights_few : (j : ℕ) → j < s.m → height_at (first_at places) (end_at places) s.n j ≤ 12
    heights_few j l = le_trans (le_of_eq (height_active j)) (h.thin j l)

    -- what the lists say makes the reads ready
    pub piled-ready : (lists' : List Column) → length lists' ≡ length lists
        → ((j : ℕ) → j < s.m → Holds lists' j (list_at (first_at places) (end_at places) s.n j)) → Ready s reads places lists'
    piled-ready lists' e holds =
        record {
          lawful = p.lawful;
          noted = p.noted;
          piled =
              record {
                room = omega (arith, e, p.room);
                holds = λ j l.
                    held_is M (first_at places) (end_at places) spanned placed lists' j
                    (subst (λ (x : ℕ). Holds lists' j (list_at (first_at places) (end_at places) x j)) (sym (count_is s reads)) (holds j l));
                few = λ j l. le_trans (le_of_eq (length-active M placed j)) (h.thin j l);
              };
        }

-- once their lists are made placed reads are ready
pub listed_ready : (p : Placed) (lists : List Column) → p.reads.shape.m ≤ length lists → (t : ℕ) → ThinColumns (matrix_of p.reads) t
    → (lists' : List Column) → length lists' ≡ length lists
    → ((j : ℕ) → j < p.reads.shape.m → Holds lists' j (list_at (first_at p.places.now) (end_at p.places.now) p.reads.shape.n j))
    → Ready p.reads.shape p.reads.bytes.now p.places.now lists'
listed_ready p lists room t h lists' e holds =
    piled-ready p.reads.shape p.reads.bytes.now p.places.now lists (piling p.reads p.noted room) t h lists' e holds
