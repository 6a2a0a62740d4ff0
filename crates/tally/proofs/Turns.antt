-- One cell more: the store of `tally_read`, pointwise in column, side and letter.
use Prim.Native.Nat.{ℕ, zero, suc, ◌+◌, ◌-◌, ◌*◌, ◌/◌, ◌%◌, ◌≤◌, ◌<◌}
use borrow.Author.Tests.{eq-eqb, ne_eqb, eqb-true, eqb-false, leb-true, leb-false, ltb-true, ltb-false}
use lib.Dec.{eqb, leb, ltb}
use lib.ListN.{length, get_or, set, get_or-eq_default}
use lib.Seq.{get_or-set_same, get_or-set_other}
use mathlib.Core.Bool.{Bool, true, false, cond, beq}
use mathlib.Core.List.{List, []}
use mathlib.Core.Logic.{◌≢◌}
use mathlib.Core.Path.{◌≡◌, refl, sym, ap, ap₂, ◌∙◌}
use native.Mathlib.Omega.{arith}
use Rattle.meaning.specs.Numbers.{bit, run, big_endian}
use Rattle.meaning.specs.Block.{Cell, Read, cell_at, hole}
use Rattle.meaning.specs.Active.{at}
use Rattle.meaning.specs.Division.{Side}
use Rattle.meaning.specs.Charge.{Letter}
use Rattle.meaning.specs.Refusals.{bad_cell}
use Rattle.meaning.proofs.Lists.{length_run, get_or-run}
use Rattle.layout.specs.Places.{read_from}
use Rattle.layout.proofs.Laws.{good}
use Rattle.sums.specs.Sums.{side_of}
use Rattle.tally.specs.Tally.{unit, tally_of, place, ReadAdded}

hole_adds : (l : Letter) → tally_of l hole ≡ 0
unfolding tally_of
hole_adds false = refl
hole_adds true = refl

-- what a cell adds, without a branch on its letter
cell_adds : (l : Letter) (letter weight : ℕ) → letter ≤ 2 → (letter ≡ 2 → weight ≡ 0)
    → cond (eqb (bit l) (letter % 2)) (weight + (1 - letter / 2) * unit) 0 ≡ tally_of l (record { letter = letter; weight = weight })
unfolding tally_of
cell_adds false zero w h e = omega arith
cell_adds true zero w h e = refl
cell_adds false (suc zero) w h e = refl
cell_adds true (suc zero) w h e = omega arith
cell_adds false (suc (suc zero)) w h e = omega (arith, e refl)
cell_adds true (suc (suc zero)) w h e = refl
cell_adds l (suc (suc (suc x))) w h e = absurd (omega arith)

-- a store that adds at one place
stored_more : (t : List ℕ) (k v p : ℕ) → k < length t → get_or (set t k (get_or t k 0 + v)) p 0 ≡ get_or t p 0 + cond (eqb p k) v 0
stored_more t k v p lt = go (eqb p k) refl
  where
    go : (b : Bool) → eqb p k ≡ b → get_or (set t k (get_or t k 0 + v)) p 0 ≡ get_or t p 0 + cond b v 0
    go true e = let z : p ≡ k = eqb-true p k e in rw z (get_or-set_same t k (get_or t k 0 + v) 0 lt)
    go false e = let ne : p ≢ k = eqb-false p k e in omega (arith, get_or-set_other t k p (get_or t k 0 + v) 0 ne)

-- two places of one column and side are equal where their letters are
same_place : (x y z : ℕ) → eqb (x + y) (x + z) ≡ eqb y z
same_place x y z = go (eqb y z) refl
  where
    go : (b : Bool) → eqb y z ≡ b → eqb (x + y) (x + z) ≡ b
    go true e = let h : x + y ≡ x + z = ap (λ (n : ℕ). x + n) (eqb-true y z e) in eq-eqb (x + y) (x + z) h
    go false e = let ne : y ≢ z = eqb-false y z e in ne_eqb (x + y) (x + z) (λ h. ne (omega arith))

pub bit-small : (b : Bool) → bit b ≤ 1
bit-small true = omega arith
bit-small false = omega arith

side-number : (n : ℕ) → n ≤ 1 → bit (side_of n) ≡ n
side-number zero h = refl
side-number (suc zero) h = refl
side-number (suc (suc n)) h = absurd (omega arith)

cond_zero : (b : Bool) → ◌≡◌ {A = ℕ} (cond b 0 0) 0
cond_zero true = refl
cond_zero false = refl

-- the first cells of a read, of any size
module _ (size from : ℕ) (cells : List ℕ) where
  at_none : (j : ℕ) → at (read_from size from 0 cells) j ≡ hole
  unfolding at run
  at_none j = go (leb from j)
    where
      go : (b : Bool) → cond b (get_or [] (j - from) hole) hole ≡ hole
      go true = refl
      go false = refl

  module _ (i : ℕ) where
    -- the first i, and one more
    abbrev some : List Cell
    some = run 0 i (cell_at size cells)

    abbrev more : List Cell
    more = run 0 (i + 1) (cell_at size cells)

    at-behind : at (read_from size from i cells) (from + i) ≡ hole
    unfolding at
    at-behind = go (leb from (from + i))
      where
        go : (b : Bool) → cond b (get_or some (from + i - from) hole) hole ≡ hole
        go true = get_or-eq_default some hole (omega (arith, length_run 0 i (cell_at size cells)))
        go false = refl

    at_next : at (read_from size from (i + 1) cells) (from + i) ≡ cell_at size cells i
    unfolding at
    at_next = go (leb from (from + i)) refl
      where
        go : (b : Bool) → leb from (from + i) ≡ b → cond b (get_or more (from + i - from) hole) hole ≡ cell_at size cells i
        go true e =
            get_or-run 0 (i + 1) (cell_at size cells) (from + i - from) hole (omega arith)
            ∙ ap (cell_at size cells) (let z : 0 + (from + i - from) ≡ i = omega arith in z)
        go false e = absurd (let z = leb-false from (from + i) e in omega arith)

    at_other : (j : ℕ) → j ≢ from + i → at (read_from size from (i + 1) cells) j ≡ at (read_from size from i cells) j
    unfolding at
    at_other j ne = go (leb from j) refl (ltb (j - from) i) refl
      where
        go : (b : Bool) → leb from j ≡ b → (c : Bool) → ltb (j - from) i ≡ c
            → cond b (get_or more (j - from) hole) hole ≡ cond b (get_or some (j - from) hole) hole
        go false e c t = refl
        go true e true t =
            let l : j - from < i = ltb-true (j - from) i t in
            get_or-run 0 (i + 1) (cell_at size cells) (j - from) hole (omega arith) ∙ sym (get_or-run 0 i (cell_at size cells) (j - from) hole l)
        go true e false t =
            let g : i ≤ j - from = ltb-false (j - from) i t in
            let h : from ≤ j = leb-true from j e in
            get_or-eq_default more hole (omega (arith, length_run 0 (i + 1) (cell_at size cells)))
            ∙ sym (get_or-eq_default some hole (omega (arith, length_run 0 i (cell_at size cells))))

-- cell i of a read on a side is stored: v is added at place k
pub record Stored (size : ℕ) (cells : List ℕ) (i from side k v : ℕ) : Type 0 where
  pub fine : bad_cell (cell_at size cells i) ≡ false
  pub small : side ≤ 1
  pub where_is : k ≡ 4 * (from + i) + 2 * side + get_or cells (size * i) 0 % 2
  pub what_is : v ≡ big_endian (size - 1) cells (size * i + 1) + (1 - get_or cells (size * i) 0 / 2) * unit

module _ (size : ℕ) (cells : List ℕ) (i : ℕ) where
  -- its letter, its weight, and what they add
  abbrev letter : ℕ
  letter = get_or cells (size * i) 0

  abbrev weight : ℕ
  weight = big_endian (size - 1) cells (size * i + 1)

  abbrev adds : ℕ
  adds = weight + (1 - letter / 2) * unit

  pub letter-known : bad_cell (cell_at size cells i) ≡ false → letter ≤ 2
  unfolding cell_at
  letter-known fine = (good (cell_at size cells i) fine).letter-known

  -- the cell at its own letter
  own : bad_cell (cell_at size cells i) ≡ false → (l : Letter) → cond (eqb (bit l) (letter % 2)) adds 0 ≡ tally_of l (cell_at size cells i)
  unfolding cell_at
  own fine l = cell_adds l letter weight (letter-known fine) (good (cell_at size cells i) fine).hole_weightless

  module _ {from side k v : ℕ} (x : Stored size cells i from side k v) where
    -- the read by its first i cells, and with one more
    abbrev before : Read
    before = read_from size from i cells

    abbrev after : Read
    after = read_from size from (i + 1) cells

    -- no other place has it
    elsewhere : (p : ℕ) → p ≢ k → cond (eqb p k) v 0 ≡ 0
    elsewhere p ne = ap (λ (b : Bool). cond b v 0) (ne_eqb p k ne)

    -- its column and side have it at its letter
    here : (t : Side) → bit t ≡ side → (l : Letter) → cond (eqb (place (from + i) t l) k) v 0 ≡ tally_of l (cell_at size cells i)
    here t u l =
        let e : k ≡ 4 * (from + i) + 2 * bit t + letter % 2 = omega (arith, x.where_is) in
        let same : eqb (place (from + i) t l) k ≡ eqb (bit l) (letter % 2) =
        ap (λ (n : ℕ). eqb (place (from + i) t l) n) e ∙ same_place (4 * (from + i) + 2 * bit t) (bit l) (letter % 2) in
        ap₂ (λ (b : Bool) (x : ℕ). cond b x 0) same x.what_is ∙ own x.fine l

    -- the read has one cell more
    gained : (j : ℕ) (s : Side) (l : Letter)
        → cond (beq (side_of side) s) (tally_of l (at before j)) 0 + cond (eqb (place j s l) k) v 0
        ≡ cond (beq (side_of side) s) (tally_of l (at after j)) 0
    gained j s l = go (eqb j (from + i)) refl (side_of side) (side-number side x.small) s
      where
        none : j ≡ from + i → tally_of l (at before j) ≡ 0
        none e = ap (λ (n : ℕ). tally_of l (at before n)) e ∙ ap (tally_of l) (at-behind size from cells i) ∙ hole_adds l

        one : j ≡ from + i → tally_of l (at after j) ≡ tally_of l (cell_at size cells i)
        one e = ap (λ (n : ℕ). tally_of l (at after n)) e ∙ ap (tally_of l) (at_next size from cells i)

        stored : (t : Side) → bit t ≡ side → j ≡ from + i → cond (eqb (place j t l) k) v 0 ≡ tally_of l (cell_at size cells i)
        stored t u e = ap (λ (n : ℕ). cond (eqb (place n t l) k) v 0) e ∙ here t u l

        go : (b : Bool) → eqb j (from + i) ≡ b → (t : Side) → bit t ≡ side → (s : Side)
            → cond (beq t s) (tally_of l (at before j)) 0 + cond (eqb (place j s l) k) v 0
            ≡ cond (beq t s) (tally_of l (at after j)) 0
        go false e t u s =
            let ne : j ≢ from + i = eqb-false j (from + i) e in
            let same = ap (λ (c : Cell). cond (beq t s) (tally_of l c) 0) (at_other size from cells i j ne) in
            omega (arith, same, elsewhere (place j s l) (λ z. omega (arith, z, ne, x.where_is, x.small, bit-small s, bit-small l)))
        go true e false u false = let z = eqb-true j (from + i) e in omega (arith, none z, one z, stored false u z)
        go true e true u true = let z = eqb-true j (from + i) e in omega (arith, none z, one z, stored true u z)
        go true e false u true =
            let z = eqb-true j (from + i) e in
            omega (arith, elsewhere (place j true l) (λ h. omega (arith, h, z, x.where_is, bit-small l)))
        go true e true u false =
            let z = eqb-true j (from + i) e in
            omega (arith, elsewhere (place j false l) (λ h. omega (arith, h, z, x.where_is, bit-small l)))

    pub cell_more : (old now : List ℕ) → k < length now → ReadAdded before (side_of side) old now
        → ReadAdded after (side_of side) old (set now k (get_or now k 0 + v))
    cell_more old now lt h j s l = omega (arith, stored_more now k v (place j s l) lt, h j s l, gained j s l)

    -- before the store the place has what it had before the read
    pub cell_room : (old now : List ℕ) (lim : ℕ) → ReadAdded before (side_of side) old now
        → ((j : ℕ) (s : Side) (l : Letter) → get_or old (place j s l) 0 ≤ lim) → get_or now k 0 ≤ lim
    cell_room old now lim h few =
        let t : Side = side_of side in
        let l : Letter = side_of (letter % 2) in
        let u : bit t ≡ side = side-number side x.small in
        let e : place (from + i) t l ≡ k = omega (arith, x.where_is, u, side-number (letter % 2) (omega arith)) in
        let z : tally_of l (at before (from + i)) ≡ 0 = ap (tally_of l) (at-behind size from cells i) ∙ hole_adds l in
        let same : get_or now k 0 ≡ get_or old (place (from + i) t l) 0 + cond (beq t t) 0 0 =
        ap (λ (n : ℕ). get_or now n 0) (sym e)
        ∙ h (from + i) t l
        ∙ ap (λ (x : ℕ). get_or old (place (from + i) t l) 0 + cond (beq t t) x 0) z in
        omega (arith, same, few (from + i) t l, cond_zero (beq t t))

-- no cell yet
pub none_added : (size from : ℕ) (cells : List ℕ) (side : Side) (t : List ℕ) → ReadAdded (read_from size from 0 cells) side t t
none_added size from cells side t j s l =
    let none = ap (tally_of l) (at_none size from cells j) ∙ hole_adds l in
    omega (arith, cond_zero (beq side s), ap (λ (x : ℕ). cond (beq side s) x 0) none)
