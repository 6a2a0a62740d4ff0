-- What one column hands on to the next: on the code's own terms, and as the rule says it.
use Prim.Native.Nat.{ℕ, zero, suc, ◌+◌, ◌-◌, ◌*◌, ◌/◌, ◌^◌, ◌≤◌, ◌<◌}
use mathlib.Core.Logic.{◌≢◌}
use mathlib.Core.Path.{◌≡◌, refl, sym, ap, ap₂, ◌∙◌, subst}
use mathlib.Core.List.{List}
use native.Mathlib.Nat.{le_trans, le_of_eq, mul-div_cancel_left, not-suc-le-zero}
use native.Mathlib.Omega.{arith}
use lib.ListN.{length, get_or, take, drop, length-drop, length-append}
use lib.Seq.{get_or-take, length-take-le}
use lib.Pow.{pow_mono, pow_pos, pow-add}
use Rattle.meaning.specs.Block.{Matrix}
use Rattle.meaning.specs.Active.{used, entries}
use Rattle.meaning.specs.Closing.{active_reads, closing_at}
use Rattle.meaning.specs.Rule.{least_at, shared_reads}
use Rattle.meaning.proofs.Closing.{active_split}
use Rattle.layout.specs.declared.runs.Place.{Place}
use Rattle.layout.specs.declared.runs.Column.{Column}
use Rattle.layout.specs.declared.shape.Shape.{Shape}
use Rattle.layout.specs.Reads.{matrix_in}
use Rattle.layout.specs.Lists.{count_at}
use Rattle.layout.specs.Ready.{Ready}
use Rattle.table.specs.Taken.{Handing, HandedOn, shared_before, TakenBefore}
use Rattle.table.proofs.Pass.{least_parts}
use Rattle.table.proofs.Sizes.{column_sizes}

-- the classes of s of q reads fill a column's entries
classes_fill : (s q : ℕ) → s ≤ q → used s * (used q / used s) ≡ used q
classes_fill s q h =
    let e : used q ≡ used s * 2 ^ ((q - 1) - (s - 1)) = ap (λ (x : ℕ). 2 ^ x) (sum s q h) ∙ pow-add 2 (s - 1) ((q - 1) - (s - 1)) in
    ap (λ (x : ℕ). used s * (x / used s)) e
    ∙ ap (λ (x : ℕ). used s * x) (mul-div_cancel_left (2 ^ ((q - 1) - (s - 1))) {n = used s} (pow_pos (s - 1)))
    ∙ sym e
  where
    sum : (a b : ℕ) → a ≤ b → b - 1 ≡ (a - 1) + ((b - 1) - (a - 1))
    sum a b h = omega arith

-- the entries of column i that stand for a division, as a part of the work room
module _ (i t : ℕ) (work : List ℕ) (room : suc i * t ≤ length work) (q n s c : ℕ) (f : n ≡ used q) (k : c ≡ used s) (few : s ≤ q) (fits : used q ≤ t) where
  abbrev part : List ℕ
  part = take (i * t + n - i * t) (drop (i * t) work)

  part_length : length part ≡ n
  part_length = length-take-le (i * t + n - i * t) (drop (i * t) work) (omega (arith, length-drop (i * t) work)) ∙ omega arith

  filled : c * (n / c) ≡ n
  filled = ap₂ (λ (x y : ℕ). x * (y / x)) k f ∙ classes_fill s q few ∙ sym f

  pub carry_fits : (taken : List ℕ) → used s ≤ length taken → ((0 < c) × (c ≤ length taken)) × ((0 < length part) × (c * (length part / c) ≡ length part))
  carry_fits taken w = (
    (subst (λ (x : ℕ). 0 < x) (sym k) (pow_pos (s - 1)), le_trans (le_of_eq k) w),
    (subst (λ (x : ℕ). 0 < x) (sym (part_length ∙ f)) (pow_pos (q - 1)), subst (λ (x : ℕ). c * (x / c) ≡ x) (sym part_length) filled),
  )

  pub handed_on : (taken : List ℕ) → ((g : ℕ) → g < c → get_or taken g 0 ≡ least_at c (length part / c) part g)
      → (g : ℕ) → g < used s → get_or taken g 0 ≡ least_at (used s) (used q / used s) (take t (drop (i * t) work)) g
  handed_on taken w g d =
      let d' : g < c = subst (λ (x : ℕ). g < x) (sym k) d in
      w g d'
      ∙ ap (λ (x : ℕ). least_at c (x / c) part g) part_length
      ∙ least_parts part (take t (drop (i * t) work)) c (n / c) g n d' (subst (λ (x : ℕ). 0 < x) (sym f) (pow_pos (q - 1))) filled same
      ∙ ap₂ (λ (x z : ℕ). least_at x (z / x) (take t (drop (i * t) work)) g) k f
    where
      same : (x : ℕ) → x < n → get_or part x 0 ≡ get_or (take t (drop (i * t) work)) x 0
      same x v =
          get_or-take (i * t + n - i * t) (drop (i * t) work) x 0 (omega arith)
          ∙ sym (get_or-take t (drop (i * t) work) x 0 (omega arith))

-- at column 0, and after it
pub handed_none : (lists : List Column) (j t s : ℕ) (work taken : List ℕ) → j ≡ 0 → get_or taken 0 0 ≡ 0 → HandedOn lists j t s work taken
handed_none lists j t s work taken e z = subst (λ (x : ℕ). HandedOn lists x t s work taken) (sym e) z

pub handed_next : (lists : List Column) (j t s : ℕ) (work taken : List ℕ) → j ≢ 0
    → ((g : ℕ) → g < used s → get_or taken g 0 ≡ least_at (used s) (used (count_at lists (j - 1)) / used s) (take t (drop ((j - 1) * t) work)) g)
    → HandedOn lists j t s work taken
handed_next lists zero t s work taken ne h = absurd (ne refl)
handed_next lists (suc i) t s work taken ne h =
    let e : suc i - 1 ≡ i = omega arith in
    subst (λ (x : ℕ). (g : ℕ) → g < used s → get_or taken g 0 ≡ least_at (used s) (used (count_at lists x) / used s) (take t (drop (x * t) work)) g) e h

module _ (shape : Shape) (reads : List ℕ) (places : List Place) (lists : List Column) (ready : Ready shape reads places lists) where
  abbrev M : Matrix
  M = matrix_in shape reads

  -- a column shares no more reads than it has
  pub shared_fewer : (i : ℕ) → i < shape.m → length (shared_reads M i) ≤ length (active_reads M i)
  shared_fewer i l =
      let split : length (active_reads M i) ≡ length (shared_reads M i) + length (closing_at M i) =
      ap length (active_split M i l) ∙ length-append (shared_reads M i) (closing_at M i) in
      omega arith

  pub shared-fits : (i : ℕ) → i < shape.m → used (length (shared_reads M i)) ≤ entries M
  shared-fits i l =
      let z = column_sizes shape reads places lists ready i (entries M) l refl in
      le_trans (pow_mono {j = count_at lists i - 1} (omega (arith, shared_fewer i l, z.counted))) z.fits

  -- what is asked to hand on to column j
  pub handing : (j t s : ℕ) → j < shape.m → t ≡ entries M → s ≡ length (shared_before M j) → (work taken : List ℕ) → t ≤ length taken → shape.m * t ≤ length work
      → Handing lists j t s work taken
  handing zero t s l e g work taken room fits =
      let z = column_sizes shape reads places lists ready 0 t l e in
      record {
        room = le_trans (le_of_eq (ap used g)) (le_trans z.some room);
        written = omega arith;
        listed = λ p. absurd (not-suc-le-zero p);
        few = λ p. absurd (not-suc-le-zero p);
        shared = λ p. absurd (not-suc-le-zero p);
        fits = λ p. absurd (not-suc-le-zero p);
      }
  handing (suc i) t s l e g work taken room fits =
      let k : i < shape.m = omega arith in
      let z = column_sizes shape reads places lists ready i t k e in
      let y = column_sizes shape reads places lists ready (suc i) t l e in
      let p : i ≡ suc i - 1 = omega arith in
      record {
        room = le_trans (le_of_eq (ap used g)) (le_trans (shared-fits i k) (le_trans (le_of_eq (sym e)) room));
        written = omega (arith, y.table-room);
        listed = λ h. omega (arith, z.list-room);
        few = λ h. subst (λ (x : ℕ). count_at lists x ≤ 12) p z.few;
        shared = λ h. subst (λ (x : ℕ). s ≤ count_at lists x) p (omega (arith, g, shared_fewer i k, z.counted));
        fits = λ h. subst (λ (x : ℕ). used (count_at lists x) ≤ t) p z.fits;
      }

  -- what is handed on is what the rule takes over
  pub handed : (j t s : ℕ) → j < shape.m → t ≡ entries M → s ≡ length (shared_before M j) → (work taken : List ℕ)
      → HandedOn lists j t s work taken → TakenBefore M j work taken
  handed zero t s l e g work taken h = h
  handed (suc i) t s l e g work taken h = λ x d.
      h x (subst (λ (y : ℕ). x < used y) (sym g) d)
      ∙ ap₂ (λ (y z : ℕ). least_at (used y) (used z / used y) (take t (drop (i * t) work)) x) g (ready.piled.holds i (omega arith)).counted
      ∙ ap (λ (y : ℕ). least_at (used (length (shared_reads M i))) (used (length (active_reads M i)) / used (length (shared_reads M i))) (take y (drop (i * y) work)) x) e
