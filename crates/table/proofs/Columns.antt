-- One turn of the table's loop, said of the definitions with the code's own terms.
use Prim.Native.Nat.{ℕ, ◌+◌, ◌-◌, ◌*◌, ◌≤◌, ◌<◌}
use mathlib.Core.Path.{◌≡◌, refl, sym, ap, ap₂, ◌∙◌, subst}
use mathlib.Core.Bool.{true, false}
use mathlib.Core.List.{List, [], ◌++◌}
use native.Mathlib.Omega.{arith}
use lib.ListN.{length, get_or, take, drop, length-drop}
use lib.Seq.{length-take-le, drop-drop}
use Rattle.meaning.specs.Block.{Cell, Matrix}
use Rattle.meaning.specs.Active.{count, read, active, at, used, entries}
use Rattle.meaning.specs.Closing.{active_reads}
use Rattle.meaning.specs.Charge.{Letter, Sums, against, by_sums}
use Rattle.meaning.specs.Rule.{column_from}
use Rattle.meaning.specs.Call.{laid}
use Rattle.meaning.proofs.Lists.{length_run}
use Rattle.fold.proofs.Masks.{turn_lt}
use Rattle.fold.specs.Turn.{starts_before, shared_to, turn_at}
use Rattle.sums.specs.Sums.{pair_at, pair_of}
use Rattle.column.specs.Pass.{Room, passed}
use Rattle.column.proofs.Join.{Paired}
use Rattle.cells.specs.Laid.{Laid}
use Rattle.layout.specs.declared.runs.Place.{Place}
use Rattle.layout.specs.declared.runs.Column.{Column}
use Rattle.layout.specs.declared.shape.Shape.{Shape}
use Rattle.layout.specs.declared.reads.Placed.{Placed}
use Rattle.layout.specs.Reads.{matrix_in}
use Rattle.layout.specs.Places.{first_at}
use Rattle.layout.specs.Ready.{Ready}
use Rattle.layout.proofs.Laws.{count_is}
use Rattle.table.specs.Taken.{TakenFits, shared_before, passed_over}
use Rattle.table.proofs.Pass.{shared_before_lem, pass_over}
use Rattle.table.proofs.Sizes.{ready_placed, column_sizes, listed-read, listed-active}

module _ (shape : Shape) (reads : List ℕ) (places : List Place) (lists : List Column) (ready : Ready shape reads places lists) where
  abbrev M : Matrix
  M = matrix_in shape reads

  -- a list of the column's reads
  module _ (j : ℕ) (l : j < shape.m) (list : List ℕ) (here : list ≡ active_reads M j) where
    pub height_is : length list ≡ length (active_reads M j)
    height_is = ap length here

    pub listed : (i : ℕ) → get_or list i 0 ≡ get_or (active_reads M j) i 0
    listed i = ap (λ (x : List ℕ). get_or x i 0) here

    pub list-fits : length list ≤ 12
    list-fits = omega (arith, height_is, ready.piled.few j l)

    pub list_read : (i : ℕ) → i < length list → get_or list i 0 < shape.n
    list_read i k =
        let m : i < length (active_reads M j) = subst (λ (x : ℕ). i < x) height_is k in
        subst (λ (x : ℕ). x < shape.n) (sym (listed i)) (listed-read shape reads places lists ready j l i m)

    pub list-active : (i : ℕ) → i < length list → active (read M (get_or list i 0)) j ≡ true
    list-active i k =
        let m : i < length (active_reads M j) = subst (λ (x : ℕ). i < x) height_is k in
        subst (λ (x : ℕ). active (read M x) j ≡ true) (sym (listed i)) (listed-active shape reads places lists ready j l i m)

    -- what is asked to look at its cells
    pub cells-laid : (placed : Placed) → placed.reads.shape ≡ shape → placed.reads.bytes.now ≡ reads → Laid placed list j
    cells-laid placed es eb =
        record {
          few = list-fits;
          each_read = λ i k. rw es (list_read i k);
          each-active = λ i k. rw (es, eb) (list-active i k);
        }

  pub firsts_are : (r : ℕ) → r < count M → first_at places r ≡ (read M r).first
  firsts_are r l = ready.noted.firsts r (subst (λ (n : ℕ). r < n) (count_is shape reads) l)

  -- the pass of column j
  module _ (j : ℕ) (l : j < shape.m) (list : List ℕ) (here : list ≡ active_reads M j) where
    pub column_paired : (w : List (List ℕ)) → ((i : ℕ) → i < length list → get_or w i [] ≡ pair_of (at (read M (get_or list i 0)) j)) → Paired M j w
    column_paired w pairs i k letter =
        ap (λ (x : List ℕ). pair_at x letter)
        (pairs i (subst (λ (x : ℕ). i < x) (sym (height_is j l list here)) k) ∙ ap (λ (r : ℕ). pair_of (at (read M r) j)) (listed j l list here i))
        ∙ of_pair letter (at (read M (get_or (active_reads M j) i 0)) j)
      where
        of_pair : (x : Letter) (c : Cell) → pair_at (pair_of c) x ≡ against x c
        of_pair true c = refl
        of_pair false c = refl

    shared_count_is : shared_to (starts_before (first_at places) list j) (length list) ≡ length (shared_before M j)
    shared_count_is =
        ap (shared_to (starts_before (first_at places) list j)) (height_is j l list here) ∙ shared_before_lem M (first_at places) list firsts_are j (λ i _. listed j l list here i)

    pub shared_are : (s : ℕ) → s ≡ shared_to (starts_before (first_at places) list j) (length list) → s ≡ length (shared_before M j)
    shared_are s e = e ∙ shared_count_is

    module _ (turn : List ℕ) (turned : (i : ℕ) → i < length list → get_or turn i 0 ≡ turn_at (starts_before (first_at places) list j) (length list) i) where
      fill_room : (taken : List ℕ) → TakenFits M j taken → Room turn (length list) taken
      fill_room taken fits =
          record {
            digits = length (shared_before M j) - 1;
            inside = fits.room;
            turns = λ i k. subst (λ (x : ℕ). get_or turn i 0 < used x) shared_count_is (subst (λ (x : ℕ). x < used (shared_to (starts_before (first_at places) list j) (length list))) (sym (turned i k)) (turn_lt (starts_before (first_at places) list j) i (length list) k));
            small = fits.small;
          }

      pub fill_fits : (t : ℕ) → t ≡ entries M → (taken work : List ℕ) → shape.m * t ≤ length work → TakenFits M j taken
          → Room turn (length list) taken × (used (length list) ≤ length (take (j * t + t - j * t) (drop (j * t) work)))
      fill_fits t e taken work room fits =
          let z = column_sizes shape reads places lists ready j t l e in
          let long : length (take (j * t + t - j * t) (drop (j * t) work)) ≡ t = length-take-le (j * t + t - j * t) (drop (j * t) work) (omega (arith, length-drop (j * t) work)) ∙ omega arith in
          (fill_room taken fits, subst (λ (x : ℕ). used (length list) ≤ x) (sym long) (subst (λ (x : ℕ). used x ≤ t) (sym (height_is j l list here ∙ sym (ready.piled.holds j l).counted)) z.fits))

    pub pass_laid : (charged : Sums → ℕ) (t : ℕ) → t ≡ entries M → (w : List (List ℕ)) (turn taken work last : List ℕ) → shape.m * t ≤ length work
        → ((i : ℕ) → i < length list → get_or w i [] ≡ pair_of (at (read M (get_or list i 0)) j))
        → ((i : ℕ) → i < length list → get_or turn i 0 ≡ turn_at (starts_before (first_at places) list j) (length list) i)
        → last ≡ passed charged w turn taken (length list) (length (take (j * t + t - j * t) (drop (j * t) work)))
        → take (j * t) work ++ (last ++ drop (j * t + t - j * t) (drop (j * t) work)) ≡ laid (j * t) (passed_over (by_sums charged) M j taken) work
    unfolding column_from
    pass_laid charged t e w turn taken work last room pairs turned h =
        let z = column_sizes shape reads places lists ready j t l e in
        let n : j * t + t - j * t ≡ t = omega arith in
        let long : length (take (j * t + t - j * t) (drop (j * t) work)) ≡ entries M =
        length-take-le (j * t + t - j * t) (drop (j * t) work) (omega (arith, length-drop (j * t) work)) ∙ n ∙ e in
        let new : last ≡ passed_over (by_sums charged) M j taken =
        h
        ∙ ap₂ (λ (x y : ℕ). passed charged w turn taken x y) (height_is j l list here) long
        ∙ pass_over M (first_at places) list firsts_are charged (ready_placed shape reads places lists ready) j (λ i _. listed j l list here i) w turn taken (column_paired w pairs)
        (λ i k. turned i (subst (λ (x : ℕ). i < x) (sym (height_is j l list here)) k) ∙ ap (λ (x : ℕ). turn_at (starts_before (first_at places) list j) x i) (height_is j l list here)) in
        let size : length (passed_over (by_sums charged) M j taken) ≡ t = length_run 0 (entries M) _ ∙ sym e in
        ap₂ (λ (x y : List ℕ). take (j * t) work ++ (x ++ y)) new
        (ap (λ (x : ℕ). drop x (drop (j * t) work)) n ∙ drop-drop t (j * t) work ∙ ap (λ (x : ℕ). drop (j * t + x) work) (sym size))
