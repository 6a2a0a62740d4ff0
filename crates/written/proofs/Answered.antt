-- The answer block: sides, then letters, then the head.
use Prim.Native.Nat.{ℕ, suc, ◌+◌, ◌-◌, ◌*◌, ◌≤◌, ◌<◌}
use mathlib.Core.Path.{◌≡◌, sym, ap, ap₂, ◌∙◌}
use mathlib.Core.Bool.{true, false}
use mathlib.Core.List.{List, ◌++◌}
use native.Mathlib.Omega.{arith}
use lib.ListN.{length, take, drop, length-drop}
use lib.Seq.{length-take-le, drop_at, take_at, drop-drop}
use Rattle.meaning.specs.Numbers.{bit}
use Rattle.meaning.specs.Block.{Matrix}
use Rattle.meaning.specs.Active.{count}
use Rattle.meaning.specs.Closing.{active_reads}
use Rattle.meaning.specs.Division.{Side, Division}
use Rattle.meaning.specs.Charge.{W, least_cost, best}
use Rattle.meaning.specs.Letters.{Mode, charge_in, reported, haplotypes, flips}
use Rattle.meaning.specs.Answer.{answer_bytes, sides_of, division_of, letters_of, answer}
use Rattle.meaning.specs.Rule.{column_of, least_entry}
use Rattle.meaning.specs.Call.{over, laid}
use Rattle.meaning.proofs.Lists.{length_run}
use Rattle.meaning.proofs.Sums.{sums_local, sums_even}
use Rattle.meaning.proofs.Modes.{Fair}
use Rattle.meaning.proofs.SidesRead.{sides_division}
use Rattle.meaning.proofs.Closing.{Placed}
use Rattle.meaning.proofs.Rule.{rule_cost, rule_back}
use Rattle.sides.specs.Ways.{table_least, table_division}
use Rattle.written.specs.Output.{division_in, flips_of, with_letters, RightColumns}
use Rattle.answer.specs.Head.{head_bytes}
use Rattle.answer.proofs.Laws.{answer-laid}

-- all parts together
pub answered : (mode : Mode) (M : Matrix) (n m cost flipped : ℕ) (old : List ℕ) → n ≡ count M → m ≡ M.columns → 17 + n + 2 * m ≤ length old
    → cost ≡ least_cost (charge_in mode) M → flipped ≡ flips M (best (charge_in mode) M) (haplotypes mode M (best (charge_in mode) M))
    → laid 0 (head_bytes cost flipped n m) (laid (17 + n + m) (letters_of mode M (best (charge_in mode) M) true)
    (laid (17 + n) (letters_of mode M (best (charge_in mode) M) false) (laid 17 (sides_of M (best (charge_in mode) M)) old)))
    ≡ over (answer mode M) old
unfolding answer sides_of letters_of
answered mode M n m cost flipped old e f fits c g =
    let d : Division = best (charge_in mode) M in
    let letters : Side → ℕ → ℕ = λ s j. reported mode (W M d j) s in
    answer-laid cost flipped n m (sides_of M d) (letters_of mode M d false) (letters_of mode M d true) old
    (length_run 0 (count M) (λ r. bit (d r)) ∙ sym e) (length_run 0 M.columns (letters false) ∙ sym f) (length_run 0 M.columns (letters true) ∙ sym f) fits
    ∙ ap₂ (λ (x y : ℕ). over (answer_bytes x y (sides_of M d) (letters_of mode M d false) (letters_of mode M d true)) old) c g

-- the part of the output that the sides are
pub sides-laid : (n : ℕ) (sides old : List ℕ) → length sides ≡ n → 17 + n ≤ length old → take 17 old ++ (sides ++ drop (17 + n - 17) (drop 17 old)) ≡ laid 17 sides old
sides-laid n sides old e l =
    ap (λ (x : List ℕ). take 17 old ++ (sides ++ x)) (drop-drop (17 + n - 17) 17 old ∙ ap (λ (k : ℕ). drop k old) (let z : 17 + (17 + n - 17) ≡ 17 + length sides = omega arith in z))

sides-read : (n : ℕ) (sides old : List ℕ) → length sides ≡ n → 17 ≤ length old → take n (drop 17 (laid 17 sides old)) ≡ sides
sides-read n sides old e l =
    ap (take n) (drop_at (take 17 old) (sides ++ drop (17 + length sides) old) 17 (length-take-le 17 old l)) ∙ take_at sides (drop (17 + length sides) old) n e

-- the whole output, step by step as it is written
pub finished : (mode : Mode) (M : Matrix) (n m cost flipped : ℕ) (old o1 o2 o3 : List ℕ) → n ≡ count M → m ≡ M.columns → 17 + n + 2 * m ≤ length old
    → o1 ≡ laid 17 (sides_of M (best (charge_in mode) M)) old
    → flipped ≡ flips_of mode M (division_in n o1) → o2 ≡ with_letters mode M (division_in n o1) n m o1
    → cost ≡ least_cost (charge_in mode) M → o3 ≡ laid 0 (head_bytes cost flipped n m) o2 → o3 ≡ over (answer mode M) old
unfolding sides_of
finished mode M n m cost flipped old o1 o2 o3 e f fits a b c d g =
    let k : length (sides_of M (best (charge_in mode) M)) ≡ n = length_run 0 (count M) (λ r. bit (best (charge_in mode) M r)) ∙ sym e in
    let s : division_in n o1 ≡ best (charge_in mode) M =
    ap (λ (x : List ℕ). division_of (take n (drop 17 x))) a ∙ ap division_of (sides-read n (sides_of M (best (charge_in mode) M)) old k (omega arith)) ∙ sides_division (charge_in mode) M in
    g
    ∙ ap (laid 0 (head_bytes cost flipped n m))
    (c ∙ ap₂ (λ (x : Division) (y : List ℕ). laid (17 + n + m) (letters_of mode M x true) (laid (17 + n) (letters_of mode M x false) y)) s a)
    ∙ answered mode M n m cost flipped old e f fits d (b ∙ ap (λ (x : Division). flips M x (haplotypes mode M x)) s)

-- the sides' part keeps its length
pub sides-size : (n : ℕ) (sides old : List ℕ) → length sides ≡ length (take (17 + n - 17) (drop 17 old)) → 17 + n ≤ length old → length sides ≡ n
sides-size n sides old e l = e ∙ length-take-le (17 + n - 17) (drop 17 old) (omega (arith, length-drop 17 old)) ∙ omega arith

-- the least entry of the last column is the cost
pub cost_is : (mode : Mode) → Fair mode → (M : Matrix) → Placed M → 0 < M.columns → (work : List ℕ) → RightColumns (charge_in mode) M work → table_least M work ≡ least_cost (charge_in mode) M
cost_is mode fair M placed z work h =
    ap (least_entry (active_reads M (M.columns - 1))) (h (M.columns - 1) (omega arith))
    ∙ rule_cost (charge_in mode) M (sums_local mode.charged M) (sums_even mode.charged fair.even M) placed (M.columns - 1) (let q : M.columns ≡ suc (M.columns - 1) = omega arith in q)

-- the sides of the way back are those of the reported division
pub sides_are : (mode : Mode) → Fair mode → (M : Matrix) → Placed M → (work : List ℕ) → RightColumns (charge_in mode) M work → sides_of M (table_division M work) ≡ sides_of M (best (charge_in mode) M)
sides_are mode fair M placed work h = ap (sides_of M) (rule_back (charge_in mode) M (sums_local mode.charged M) (sums_even mode.charged fair.even M) placed (column_of M work) h)
