-- The checks 1 to 4 as the branches of `check_header` meet them.
use Prim.Native.Nat.{ℕ, zero, suc, ◌+◌, ◌-◌, ◌≤◌, ◌<◌}
use mathlib.Core.Bool.{Bool, true, false, cond, ◌||◌, or-true}
use mathlib.Core.List.{List}
use mathlib.Core.Logic.{◌≢◌}
use mathlib.Core.Path.{◌≡◌, refl, sym, ◌∙◌}
use Rattle.std.proofs.Common.{Option, Some, None}
use native.Mathlib.Omega.{arith}
use lib.ListN.{length}
use lib.Dec.{eqb, ltb}
use borrow.Author.Tests.{lt-ltb, le-ltb, eq-eqb, ne_eqb}
use Rattle.meaning.specs.Block.{latest, version_field, size_field, columns_field, reads_field, cell_size}
use Rattle.meaning.specs.Refusals.{passed, refuse, or_else, short, other_version, other_size, bad_counts, header_refusal}
use Rattle.layout.specs.declared.shape.Shape.{Shape}
use Rattle.layout.specs.Cells.{CellSize}
use Rattle.header.specs.Header.{size_of, Sized}

-- no other version has one
no_size : (v : ℕ) → 2 < v → size_of v ≡ None
unfolding size_of
no_size v l =
    let one : v ≢ 1 = omega arith in
    let two : v ≢ 2 = omega arith in
    simp (ne_eqb v 1 one, ne_eqb v 2 two)

module _ (b : List ℕ) where
  pub is_short : length b < 9 → record { number = 1; second = 0 } ≡ header_refusal latest b
  unfolding header_refusal or_else refuse short
  is_short h = sym (simp (lt-ltb (length b) 9 h))

  is_long : 9 ≤ length b → short b ≡ false
  unfolding short
  is_long h = le-ltb (length b) 9 h

  -- a version without a size of cells is refused
  other_version_lem : size_of (version_field b) ≡ None → other_version latest b ≡ true
  unfolding other_version size_of
  other_version_lem = go (version_field b)
    where
      go : (v : ℕ) → cond {A = Option ℕ} (eqb v 1) (Some 2) (cond (eqb v 2) (Some 3) None) ≡ None → (eqb v 0 || ltb 2 v) ≡ true
      go zero e = refl
      go (suc zero) e = absurd (let z : ◌≡◌ {A = Option ℕ} (Some 2) None = e in cc)
      go (suc (suc zero)) e = absurd (let z : ◌≡◌ {A = Option ℕ} (Some 3) None = e in cc)
      go (suc (suc (suc v))) e = let l : 2 < suc (suc (suc v)) = omega arith in simp (lt-ltb 2 (suc (suc (suc v))) l, or-true)

  -- and one with such a size is 1 or 2
  this_version : {size : ℕ} → size_of (version_field b) ≡ Some size → other_version latest b ≡ false
  unfolding other_version size_of
  this_version {size} = go (version_field b)
    where
      go : (v : ℕ) → cond {A = Option ℕ} (eqb v 1) (Some 2) (cond (eqb v 2) (Some 3) None) ≡ Some size → (eqb v 0 || ltb 2 v) ≡ false
      go zero e = absurd (let z : ◌≡◌ {A = Option ℕ} None (Some size) = e in cc)
      go (suc zero) e = refl
      go (suc (suc zero)) e = refl
      go (suc (suc (suc v))) e =
          let z : ◌≡◌ {A = Option ℕ} None (Some size) = sym (no_size (suc (suc (suc v))) (omega arith)) ∙ e in
          absurd cc

  pub is_cell_size : {size : ℕ} → size_of (version_field b) ≡ Some size → (size ≡ cell_size b) × CellSize size
  unfolding size_of
  is_cell_size {size} = go (version_field b)
    where
      of : {k : ℕ} → ◌≡◌ {A = Option ℕ} (Some k) (Some size) → size ≡ k
      of e = cc

      go : (v : ℕ) → cond {A = Option ℕ} (eqb v 1) (Some 2) (cond (eqb v 2) (Some 3) None) ≡ Some size
          → (size ≡ 1 + cond {A = ℕ} (eqb v 2) 2 1) × CellSize size
      go zero e = absurd (let z : ◌≡◌ {A = Option ℕ} None (Some size) = e in cc)
      go (suc zero) e = let k : size ≡ 2 = of e in (k, (omega arith, omega arith))
      go (suc (suc zero)) e = let k : size ≡ 3 = of e in (k, (omega arith, omega arith))
      go (suc (suc (suc v))) e =
          let z : ◌≡◌ {A = Option ℕ} None (Some size) = sym (no_size (suc (suc (suc v))) (omega arith)) ∙ e in
          absurd cc

  pub is_version : 9 ≤ length b → size_of (version_field b) ≡ None → record { number = 2; second = 0 } ≡ header_refusal latest b
  unfolding header_refusal or_else refuse
  is_version g h = sym (simp (is_long g, other_version_lem h))

  module _ (nine : 9 ≤ length b) {size : ℕ} (version : size_of (version_field b) ≡ Some size) where
    pub is_size : size_field b ≢ length b - 5 → record { number = 3; second = 0 } ≡ header_refusal latest b
    unfolding header_refusal or_else refuse other_size
    is_size h = sym (simp (is_long nine, this_version version, ne_eqb (size_field b) (length b - 5) h))

    module _ (fits : size_field b ≡ length b - 5) where
      by_counts : (t : Bool) → bad_counts b ≡ t → refuse t 4 0 ≡ header_refusal latest b
      unfolding header_refusal or_else refuse other_size
      by_counts t e = sym (simp (is_long nine, this_version version, eq-eqb (size_field b) (length b - 5) fits, e))

      pub no_column : columns_field b ≡ 0 → record { number = 4; second = 0 } ≡ header_refusal latest b
      unfolding bad_counts refuse
      no_column h = by_counts true (simp (eq-eqb (columns_field b) 0 h))

      pub many_columns : 1024 < columns_field b → record { number = 4; second = 0 } ≡ header_refusal latest b
      unfolding bad_counts refuse
      many_columns h = by_counts true (simp (lt-ltb 1024 (columns_field b) h, or-true))

      pub many_reads : 1024 < reads_field b → record { number = 4; second = 0 } ≡ header_refusal latest b
      unfolding bad_counts refuse
      many_reads h = by_counts true (simp (lt-ltb 1024 (reads_field b) h, or-true))

      pub is_sized : {s : Shape} → Sized b s → passed ≡ header_refusal latest b
      unfolding bad_counts refuse
      is_sized s =
          let z : columns_field b ≢ 0 = omega arith in
          let c : columns_field b ≤ 1024 = omega arith in
          let r : reads_field b ≤ 1024 = omega arith in
          by_counts false (simp (ne_eqb (columns_field b) 0 z, le-ltb 1024 (columns_field b) c, le-ltb 1024 (reads_field b) r))
