-- The parts of a tally: its weight is one of the four sums, and the number of its entries the flips against the other letter.
use Prim.Native.Nat.{ℕ, ◌+◌, ◌*◌, ◌/◌, ◌%◌, ◌≤◌, ◌<◌}
use lib.Dec.{eqb}
use lib.ListN.{get_or}
use mathlib.Core.Bool.{Bool, true, false, cond, not, beq}
use mathlib.Core.List.{List, [], ◌∷◌}
use mathlib.Core.Path.{◌≡◌, refl, sym, ap, ap₂, ◌∙◌}
use native.Mathlib.Omega.{arith}
use Rattle.meaning.specs.Numbers.{bit, sum_to}
use Rattle.meaning.specs.Block.{Cell, Matrix}
use Rattle.meaning.specs.Active.{count, read, at, active_count}
use Rattle.meaning.specs.Division.{Side, Division}
use Rattle.meaning.specs.Charge.{Letter, against, W}
use Rattle.meaning.specs.Letters.{Mode, reported, haplotypes, is_flip}
use Rattle.meaning.specs.Answer.{division_of}
use Rattle.meaning.proofs.Totals.{sum_ext, sum_add, sum_times, sum_bound}
use Rattle.meaning.proofs.Bounds.{Light, sums_bound}
use Rattle.sums.specs.Sums.{array_of, pair_at}
use Rattle.tally.specs.Tally.{unit, tally_of, tallied_to, place, Tallied}
use Rattle.meaning.specs.Margins.{margin_of}
use Rattle.letters.specs.declared.Margins.{Margins}
use Rattle.letters.specs.Lettered.{Lettered}
use Rattle.tally.proofs.Turns.{bit-small}

-- the flips of a side against a letter
unfoldable pub flips_of : Matrix → Division → ℕ → Side → Letter → ℕ
flips_of M d j s l = sum_to (count M) (λ q. cond (beq (d q) s) (bit (is_flip l (at (read M q) j))) 0)

pair_has : (f : Letter → ℕ) (l : Letter) → pair_at (f false ∷ f true ∷ []) l ≡ f l
pair_has f false = refl
pair_has f true = refl

-- a cell's tally at the letter that is not l
cell_parts : (t : Bool) (l : Letter) (c : Cell) → cond t (tally_of (not l) c) 0 ≡ cond t (bit (is_flip l c)) 0 * unit + cond t (against l c) 0
unfolding tally_of is_flip against
cell_parts t l c = go t (eqb c.letter (bit (not l)))
  where
    go : (t e : Bool) → cond t (cond e (unit + c.weight) 0) 0 ≡ cond t (bit e) 0 * unit + cond t (cond e c.weight 0) 0
    go true true = omega arith
    go true false = omega arith
    go false e = omega arith

module _ (M : Matrix) (d : Division) (j : ℕ) (s : Side) (l : Letter) where
  tallied_parts : tallied_to M d (count M) j s (not l) ≡ flips_of M d j s l * unit + W M d j s l
  unfolding tallied_to W flips_of
  tallied_parts =
      sum_ext (count M) (λ q h. cell_parts (beq (d q) s) l (at (read M q) j))
      ∙ sum_add (count M) _ _
      ∙ ap (λ (x : ℕ). x + W M d j s l) (sum_times (count M) unit (λ q. cond (beq (d q) s) (bit (is_flip l (at (read M q) j))) 0))

  weight-small : active_count M j ≤ 12 → Light M 65535 → W M d j s l < unit
  weight-small few light = go s
    where
      both : W M d j false l + W M d j true l ≤ active_count M j * 65535
      both = sums_bound M 65535 light d j l l

      go : (s : Side) → W M d j s l < unit
      go false = omega (arith, both)
      go true = omega (arith, both)

-- read off a matrix's tally
module _ (M : Matrix) (sides tally : List ℕ) (of : Tallied M sides tally) (j : ℕ) (inside : j < M.columns) where
  abbrev d : Division
  d = division_of sides

  module _ (s : Side) (l : Letter) where
    parts : get_or tally (place j s (not l)) 0 ≡ flips_of M d j s l * unit + W M d j s l
    parts = of.each j inside s (not l) ∙ tallied_parts M d j s l

    small : W M d j s l < unit
    small = weight-small M d j s l (of.thin j inside) of.light

    pub weight-read : get_or tally (place j s (not l)) 0 % unit ≡ W M d j s l
    weight-read = omega (arith, parts, small)

    pub flips-read : get_or tally (place j s (not l)) 0 / unit ≡ flips_of M d j s l
    flips-read = omega (arith, parts, small)

  -- the four tallies of the column, as they are read
  module _ (f : ℕ → ℕ) (sum : Side → Letter → ℕ) (each : (s : Side) (l : Letter) → f (get_or tally (place j s (not l)) 0) ≡ sum s l) where
    at_place : (k : ℕ) (s : Side) (l : Letter) → k ≡ place j s (not l) → f (get_or tally k 0) ≡ sum s l
    at_place k s l e = ap (λ (n : ℕ). f (get_or tally n 0)) e ∙ each s l

    pub side_zero : f (get_or tally (4 * j + 1) 0) ∷ f (get_or tally (4 * j) 0) ∷ [] ≡ sum false false ∷ sum false true ∷ []
    side_zero = ap₂ (λ (x y : ℕ). x ∷ y ∷ []) (at_place (4 * j + 1) false false (omega arith)) (at_place (4 * j) false true (omega arith))

    pub side_one : f (get_or tally (4 * j + 3) 0) ∷ f (get_or tally (4 * j + 2) 0) ∷ [] ≡ sum true false ∷ sum true true ∷ []
    side_one = ap₂ (λ (x y : ℕ). x ∷ y ∷ []) (at_place (4 * j + 3) true false (omega arith)) (at_place (4 * j + 2) true true (omega arith))

  pub sums_read : (get_or tally (4 * j + 1) 0 % unit ∷ get_or tally (4 * j) 0 % unit ∷ [])
      ∷ (get_or tally (4 * j + 3) 0 % unit ∷ get_or tally (4 * j + 2) 0 % unit ∷ []) ∷ []
      ≡ array_of (W M d j)
  sums_read =
      ap₂ (λ (x y : List ℕ). x ∷ y ∷ [])
      (side_zero (λ x. x % unit) (W M d j) weight-read)
      (side_one (λ x. x % unit) (W M d j) weight-read)

  -- the flips of both sides are those of all reads
  flips_all : (h : Side → Letter)
      → flips_of M d j false (h false) + flips_of M d j true (h true) ≡ sum_to (count M) (λ q. bit (is_flip (h (d q)) (at (read M q) j)))
  unfolding flips_of
  flips_all h = sym (sum_add (count M) _ _) ∙ sum_ext (count M) (λ q l. go (at (read M q) j) (d q))
    where
      go : (c : Cell) (s : Side)
          → cond (beq s false) (bit (is_flip (h false) c)) 0 + cond (beq s true) (bit (is_flip (h true) c)) 0 ≡ bit (is_flip (h s) c)
      go c false = omega arith
      go c true = omega arith

  -- the letters, each side's entries against its letter, and the margins
  pub lettered : (mode : Mode) (f g a c x y : ℕ) → f ≡ reported mode (W M d j) false → g ≡ reported mode (W M d j) true
      → a ≡ bit (mode.letter (W M d j) false) → c ≡ bit (mode.letter (W M d j) true)
      → ((l : Letter) → a ≡ bit l → x ≡ pair_at (get_or tally (4 * j + 1) 0 / unit ∷ get_or tally (4 * j) 0 / unit ∷ []) l)
      → ((l : Letter) → c ≡ bit l → y ≡ pair_at (get_or tally (4 * j + 3) 0 / unit ∷ get_or tally (4 * j + 2) 0 / unit ∷ []) l)
      → (z : Margins) → z.first ≡ margin_of mode (W M d j) false → z.second ≡ margin_of mode (W M d j) true
      → Lettered mode M d j (record { first = f; second = g; flips = x + y; margins = z })
  unfolding haplotypes
  lettered mode f g a c x y ef eg ea ec hx hy z ez fz =
      let h : Side → Letter = mode.letter (W M d j) in
      let zero-side : x ≡ flips_of M d j false (h false) =
      hx (h false) ea
      ∙ ap (λ (n : List ℕ). pair_at n (h false)) (side_zero (λ x. x / unit) (flips_of M d j) flips-read)
      ∙ pair_has (flips_of M d j false) (h false) in
      let one_side : y ≡ flips_of M d j true (h true) =
      hy (h true) ec
      ∙ ap (λ (n : List ℕ). pair_at n (h true)) (side_one (λ x. x / unit) (flips_of M d j) flips-read)
      ∙ pair_has (flips_of M d j true) (h true) in
      let flipped : ℕ → ℕ = λ q. bit (is_flip (h (d q)) (at (read M q) j)) in
      let sum : x + y ≡ sum_to (count M) flipped = ap₂ ◌+◌ zero-side one_side ∙ flips_all h in
      let most : sum_to (count M) flipped ≤ count M * 1 =
      sum_bound (count M) 1 {f = flipped} (λ q l. bit-small (is_flip (h (d q)) (at (read M q) j))) in
      record {
        first_is = ef;
        second_is = eg;
        flips_are = sum;
        flips-few = omega (arith, sum, of.few-reads, most);
        first_margin_is = ez;
        second_margin_is = fz;
      }
