-- The walk through a column's indices: what it has at an index, what a step makes of that, and that it writes every entry.
use Prim.Native.Nat.{ℕ, suc, ◌+◌, ◌-◌, ◌/◌, ◌%◌, ◌^◌, ◌≤◌, ◌<◌}
use borrow.Author.Count.{below_none, below_more}
use lib.Bits.{bit_xor, xor_lt}
use lib.Count.{count_trailing_zeros}
use lib.ListN.{length, get_or, set, length-set}
use lib.Pow.{pow_pos, pow_mono, pow-lt}
use mathlib.Core.Bool.{false, not}
use mathlib.Core.List.{List}
use mathlib.Core.Logic.{◌≢◌}
use mathlib.Core.Path.{◌≡◌, refl, sym, ap, ap₂, ◌∙◌, subst}
use native.Mathlib.Numerals.{add-one}
use native.Mathlib.Decide.{dec_le}
use native.Mathlib.Omega.{arith}
use Rattle.fold.specs.Turn.{side_at}
use Rattle.fold.proofs.Digits.{Turned}
use Rattle.fold.proofs.Laws.{fold_lt}
use Rattle.fold.proofs.Steps.{xor_back, side_start, side_step, fold_start, fold_step}
use Rattle.plain.proofs.Laws.{stored_at}
use Rattle.meaning.specs.Active.{used}
use Rattle.meaning.specs.Charge.{Letter, Sums, charge_of}
use Rattle.sums.specs.Sums.{sums_of, array_of, Small, weight_of, LightPairs, sums_with, side_of, moved_sums, Movable}
use Rattle.sums.specs.Level.{raised}
use Rattle.column.specs.Pass.{Room, entry_at}
use Rattle.column.specs.Walk.{gray, levelled, Low, Written, At, Walked, Turns}
use Rattle.column.proofs.Moves.{sums_of_array, sums_with_ext, moved_sums_lem, moved_there, moved_raised, sums_small, charge-small, sums_movable}
use Rattle.column.proofs.Gray.{gray_start, gray_step, gray_even, gray-odd, lowest-odd, lowest-two, lowest_lt, lowest_power, visits}

-- a column's entries are few
pub used-small : (p : ℕ) → p ≤ 12 → used p ≤ 2048
used-small p few = pow_mono {i = p - 1} {j = 11} (omega arith)

-- of three reads or more there are four entries at least
pub used_four : (p : ℕ) → 3 ≤ p → 4 ≤ used p
used_four p l = pow_mono {i = 2} {j = p - 1} (omega arith)

-- the digit of a step tells whether it is one of the walk's: the step after the last turns a digit that no read has
pub step_inside : (p n d : ℕ) → p ≤ 12 → n ≤ used p → d ≡ count_trailing_zeros 64 n → d < p - 1 → n < used p
step_inside p n d few le e l = go (dec_le (suc n) (used p))
  where
    go : Dec (n < used p) → n < used p
    go (yes h) = h
    go (no h) =
        let z : n ≡ used p = omega arith in
        let w : d ≡ p - 1 = e ∙ ap (count_trailing_zeros 64) z ∙ lowest_power 64 (p - 1) (omega arith) in
        absurd (omega arith)

pub step_outside : (p n d : ℕ) → 0 < n → d ≡ count_trailing_zeros 64 n → p - 1 ≤ d → used p ≤ n
step_outside p n d some e l = go (dec_le (suc n) (used p))
  where
    go : Dec (n < used p) → used p ≤ n
    go (yes h) = absurd (omega (arith, e, lowest_lt 64 (p - 1) n some h))
    go (no h) = omega arith

-- of three reads or more, as many as come in fours
pub used_fours : (p n : ℕ) → 3 ≤ p → n % 4 ≡ 0 → n < used p → n + 3 < used p
used_fours p n l e h =
    let z : p - 1 ≡ suc (suc (p - 3)) = omega arith in
    let u : used p ≡ 2 ^ suc (suc (p - 3)) = ap (λ (i : ℕ). 2 ^ i) z in
    omega arith

-- index 0 has all reads on side 0
pub at_start : {w : List (List ℕ)} {turn level taken : List ℕ} {p : ℕ} {s : List (List ℕ)} → p ≤ 12 → LightPairs w p 65535 → Low level → Room turn p taken
    → s ≡ array_of (raised (sums_with w p (λ i. false)) level) → At w turn p level taken s 0 0
at_start {w} {turn} {level} {p = p} few light low room e = record {
  few = few;
  light = light;
  low = low;
  room = room;
  below = pow_pos (p - 1);
  sums_are = e ∙ ap (λ (x : Sums). array_of (raised x level)) (sums_with_ext w p (λ i l. sym (side_start i)));
  fold_is = sym (fold_start turn p);
}

module _ {w : List (List ℕ)} {turn level taken : List ℕ} {p : ℕ} {s : List (List ℕ)} {k q : ℕ} (h : At w turn p level taken s k q) where
  sums_now : sums_of s ≡ raised (sums_with w p (side_at k)) level
  sums_now = ap sums_of h.sums_are ∙ sums_of_array (raised (sums_with w p (side_at k)) level)

  -- the sums are small, the folded index has its entry, and the total fits
  pub at-fits : Small (sums_of s) × (q < length taken) × (charge_of (sums_of s) + get_or taken q 0 ≤ 4294967295)
  at-fits = (
    subst Small (sym sums_now) (sums_small w p h.few h.light (side_at k) level h.low),
    omega (arith, folds, h.room.inside),
    omega (arith, ap charge_of sums_now, charge-small w p h.few h.light (side_at k) level h.low, h.room.small q folds),
  )
    where
      folds : q < 2 ^ h.room.digits
      folds = rw h.fold_is (fold_lt turn k h.room.digits p h.room.turns)

  -- the entry of index k
  at_entry : (v : ℕ) → v ≡ charge_of (sums_of s) + get_or taken q 0 → v ≡ entry_at (levelled level) w turn taken p k
  unfolding entry_at
  at_entry v e = e ∙ ap₂ (λ (x : Sums) (f : ℕ). charge_of x + get_or taken f 0) sums_now h.fold_is

  -- the read of digit d, which is on side `from`
  module _ (d from : ℕ) (l : d + 1 < p) (at_from : from ≡ k / 2 ^ d % 2) where
    was : side_at k (d + 1) ≡ side_of from
    was = ap (side_at k) (add-one d) ∙ ap side_of (sym at_from)

    -- it can move
    pub at_movable : Movable (sums_of s) (weight_of w (d + 1)) (side_of from)
    at_movable = subst (λ (x : Sums). Movable x (weight_of w (d + 1)) (side_of from)) (sym sums_now) (sums_movable w p h.few h.light (side_at k) level h.low (d + 1) (side_of from) l was)

    -- it has moved
    pub at_moved : (t : List (List ℕ)) → t ≡ array_of (moved_sums (sums_of s) (weight_of w (d + 1)) (side_of from))
        → At w turn p level taken t (bit_xor k (2 ^ d)) (bit_xor q (get_or turn (d + 1) 0))
    at_moved t e = record {
      few = h.few;
      light = h.light;
      low = h.low;
      room = h.room;
      below = xor_lt (p - 1) k (2 ^ d) h.below (pow-lt (omega arith));
      sums_are =
          e ∙ ap (λ (x : Sums). array_of (moved_sums x (weight_of w (d + 1)) (side_of from))) sums_now
          ∙ ap array_of (moved_raised (sums_with w p (side_at k)) level (weight_of w (d + 1)) (side_of from) there)
          ∙ ap (λ (x : Sums). array_of (raised x level)) (sym (moved_sums_lem w p (d + 1) (side_of from) l was (turns.turned ∙ ap not was) (λ r ne. sym (turns.same r ne))));
      fold_is = ap (λ (x : ℕ). bit_xor x (get_or turn (d + 1) 0)) h.fold_is ∙ sym (fold_step turn k (bit_xor k (2 ^ d)) (d + 1) p l turns);
    }
      where
        turns : Turned (d + 1) (side_at k) (side_at (bit_xor k (2 ^ d)))
        turns = side_step k d

        there : (x : Letter) → weight_of w (d + 1) x ≤ sums_with w p (side_at k) (side_of from) x
        there = moved_there w p (d + 1) (side_of from) l was (turns.turned ∙ ap not was) (λ r ne. sym (turns.same r ne))

module _ (w : List (List ℕ)) (turn level taken part : List ℕ) (p : ℕ) where
  -- the entry of step n is written, and those of the steps before it stay
  written_more : (n k v : ℕ) → k < length part → v ≡ entry_at (levelled level) w turn taken p k → k ≡ gray n → ((i : ℕ) → i < n → Written w turn p level taken part (gray i))
      → (i : ℕ) → i < n + 1 → Written w turn p level taken (set part k v) (gray i)
  written_more n k v l e is done = below_more here n (λ i m. holds (gray i) (λ ne. done i m)) (holds (gray n) (λ ne. absurd (ne (sym is))))
    where
      here : ℕ → Type 0
      here i = Written w turn p level taken (set part k v) (gray i)

      holds : (j : ℕ) → (j ≢ k → Written w turn p level taken part j) → Written w turn p level taken (set part k v) j
      holds = stored_at part k v (entry_at (levelled level) w turn taken p) l e

  -- step 0
  pub walked_start : {s : List (List ℕ)} → At w turn p level taken s 0 0 → used p ≤ length part → (v : ℕ) → v ≡ charge_of (sums_of s) + get_or taken 0 0
      → Walked w turn p level taken 1 (set part 0 v) s 0 0
  walked_start h inside v e = record {
    at = h;
    inside = simp length-set (inside);
    index = sym gray_start;
    done = written_more 0 0 v (omega (arith, h.below)) (at_entry h v e) (sym gray_start) (below_none _);
  }

module _ {w : List (List ℕ)} {turn level taken part : List ℕ} {p n : ℕ} {s : List (List ℕ)} {k q d from : ℕ} (h : Turns w turn p level taken n part s k q d from) where
  pub digit_below : d + 1 < p
  digit_below = omega (arith, h.lowest, lowest_lt 64 (p - 1) n h.some h.below)

  -- which has a read
  pub has_read : d + 1 < 12
  has_read = omega (arith, digit_below, h.walked.at.few)

  turned_index : bit_xor k (2 ^ d) ≡ gray n
  turned_index =
      let z : n - 1 + 1 ≡ n = omega (arith, h.some) in
      ap₂ (λ (x y : ℕ). bit_xor x (2 ^ y)) h.walked.index (h.lowest ∙ ap (count_trailing_zeros 64) (sym z))
      ∙ sym (gray_step 64 (n - 1) (omega (arith, h.below, used-small p h.walked.at.few)))
      ∙ ap gray z

  -- what step n moves, and the index that it leads to
  pub step_movable : (from < 2) × Movable (sums_of s) (weight_of w (d + 1)) (side_of from)
  step_movable = (omega (arith, h.side), at_movable h.walked.at d from digit_below h.side)

  -- the index as the code has it
  module _ (to : ℕ) (is : to ≡ bit_xor k (2 ^ d)) where
    pub step_at : (t : List (List ℕ)) → t ≡ array_of (moved_sums (sums_of s) (weight_of w (d + 1)) (side_of from)) → At w turn p level taken t to (bit_xor q (get_or turn (d + 1) 0))
    step_at t e =
        subst (λ (i : ℕ). At w turn p level taken t i (bit_xor q (get_or turn (d + 1) 0))) (sym is) (at_moved h.walked.at d from digit_below h.side t e)

    -- step n is done
    pub walked_step : {t : List (List ℕ)} {f : ℕ} → At w turn p level taken t to f → (v : ℕ) → v ≡ charge_of (sums_of t) + get_or taken f 0
        → Walked w turn p level taken (n + 1) (set part to v) t (bit_xor k (2 ^ d)) f
    walked_step {t} {f} a v e = record {
      at = subst (λ (i : ℕ). At w turn p level taken t i f) is a;
      inside = simp length-set h.walked.inside;
      index = turned_index ∙ ap gray (let z : n ≡ n + 1 - 1 = omega arith in z);
      done = written_more w turn level taken part p n to v (omega (arith, a.below, h.walked.inside)) (at_entry a v e) (is ∙ turned_index) h.walked.done;
    }

-- of two reads there is one step, the first
pub first-turns : {w : List (List ℕ)} {turn level taken part : List ℕ} {p : ℕ} {s : List (List ℕ)} {q : ℕ} → p ≡ 2 → Walked w turn p level taken 1 part s 0 q
    → Turns w turn p level taken 1 part s 0 q 0 0
first-turns e h = record {
  some = omega arith;
  below = let u = ap used e in omega arith;
  lowest = sym (lowest-odd 63 1 refl);
  side = refl;
  walked = h;
}

-- the three steps after step n, where n is a multiple of four
module _ {w : List (List ℕ)} {turn level taken part : List ℕ} {p n : ℕ} {s : List (List ℕ)} {k q : ℕ} (l : 3 ≤ p) (e : n % 4 ≡ 0) (below : n < used p) where
  pub first_of_three : Walked w turn p level taken (n + 1) part s k q → Turns w turn p level taken (n + 1) part s k q 0 0
  first_of_three h = record {
    some = omega arith;
    below = omega (arith, used_fours p n l e below);
    lowest = sym (lowest-odd 63 (n + 1) (omega arith));
    side =
        let z : n + 1 - 1 ≡ n = omega arith in
        let even : k % 2 ≡ 0 = ap (λ (i : ℕ). i % 2) (h.index ∙ ap gray z) ∙ gray_even n e in
        omega arith;
    walked = h;
  }

  pub second_of_three : {from : ℕ} → from ≡ k / 2 % 2 → Walked w turn p level taken (n + 1 + 1) part s k q → Turns w turn p level taken (n + 2) part s k q 1 from
  second_of_three side h = record {
    some = omega arith;
    below = omega (arith, used_fours p n l e below);
    lowest = sym (lowest-two 62 (n + 2) (omega arith));
    side = side;
    walked = subst (λ (i : ℕ). Walked w turn p level taken i part s k q) (let z : n + 1 + 1 ≡ n + 2 = omega arith in z) h;
  }

  pub third_of_three : Walked w turn p level taken (n + 2 + 1) part s k q → Turns w turn p level taken (n + 3) part s k q 0 1
  third_of_three h = record {
    some = omega arith;
    below = used_fours p n l e below;
    lowest = sym (lowest-odd 63 (n + 3) (omega arith));
    side =
        let z : n + 2 + 1 - 1 ≡ n + 2 = omega arith in
        let odd : k % 2 ≡ 1 = ap (λ (i : ℕ). i % 2) (h.index ∙ ap gray z) ∙ gray-odd (n + 2) (omega arith) in
        omega arith;
    walked = subst (λ (i : ℕ). Walked w turn p level taken i part s k q) (let z : n + 2 + 1 ≡ n + 3 = omega arith in z) h;
  }

-- after them digit 0 is on side 0 again
pub walked_three : {w : List (List ℕ)} {turn level taken part : List ℕ} {p : ℕ} {s : List (List ℕ)} (n k q x y : ℕ)
    → Walked w turn p level taken (n + 3 + 1) part s (bit_xor (bit_xor (bit_xor k 1) 2) 1) (bit_xor (bit_xor (bit_xor q x) y) x) → Walked w turn p level taken (n + 4) part s (bit_xor k 2) (bit_xor q y)
walked_three {w} {turn} {level} {taken} {part} {p} {s} n k q x y h =
    let z : n + 3 + 1 ≡ n + 4 = omega arith in
    rw (xor_back k 1 2, xor_back q x y, z) at h

-- every index is visited, so every entry is written
pub walked_all : {w : List (List ℕ)} {turn level taken part : List ℕ} {p n : ℕ} {s : List (List ℕ)} {k q : ℕ} → Walked w turn p level taken n part s k q → used p ≤ n
    → (j : ℕ) → j < used p → Written w turn p level taken part j
walked_all {w} {turn} {level} {taken} {part} {p} h l j m = let v = (visits (p - 1)).visit j m in subst (Written w turn p level taken part) v.2 (h.done v.0 (omega (arith, v.1)))
