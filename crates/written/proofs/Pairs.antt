-- Two runs of one number a column, one behind the other, written column by column.
use Prim.Native.Nat.{ℕ, ◌+◌, ◌*◌, ◌≤◌, ◌<◌}
use mathlib.Core.Path.{◌≡◌, sym, ap, ◌∙◌}
use mathlib.Core.List.{List, [], ◌∷◌, ◌++◌}
use native.Mathlib.Nat.{add-zero, zero-add}
use native.Mathlib.Numerals.{add-one}
use native.Mathlib.Omega.{arith}
use lib.ListN.{length, take, drop, set, take-append-drop}
use Rattle.meaning.specs.Numbers.{run}
use Rattle.meaning.specs.Call.{laid}
use Rattle.meaning.proofs.Lists.{length_run, run_more}
use Rattle.meaning.proofs.Rooms.{length-laid, set_laid_end, set_laid_before}

-- the numbers of the first j columns: the first run's from place `at` on, the second's from m places behind
abbrev pub pairs_to : ℕ → ℕ → (ℕ → ℕ) → (ℕ → ℕ) → ℕ → List ℕ → List ℕ
pairs_to at m f g j out = laid (at + m) (run 0 j g) (laid at (run 0 j f) out)

module _ (at m : ℕ) (f g : ℕ → ℕ) (out : List ℕ) (fits : at + 2 * m ≤ length out) where
  pub pairs_none : out ≡ pairs_to at m f g 0 out
  unfolding run
  pairs_none = sym (nothing (at + m) (laid at [] out) ∙ nothing at out)
    where
      nothing : (at : ℕ) (x : List ℕ) → laid at [] x ≡ x
      nothing at x = ap (λ (k : ℕ). take at x ++ drop k x) (add-zero at) ∙ take-append-drop at x

  pub pairs_more : (j : ℕ) → j < m → set (set (pairs_to at m f g j out) (at + j) (f j)) (at + m + j) (g j) ≡ pairs_to at m f g (j + 1) out
  pairs_more j l =
      let a : length (run 0 j f) ≡ j = length_run 0 j f in
      let b : length (run 0 j g) ≡ j = length_run 0 j g in
      let c : length (laid at (run 0 j f) out) ≡ length out = length-laid at (run 0 j f) out (omega arith) in
      let more : (h : ℕ → ℕ) → run 0 j h ++ (h j ∷ []) ≡ run 0 (j + 1) h =
      λ h. ap (λ (k : ℕ). run 0 j h ++ (h k ∷ [])) (sym (zero-add j)) ∙ sym (run_more 0 j h) ∙ ap (λ (k : ℕ). run 0 k h) (sym (add-one j)) in
      let first : set (pairs_to at m f g j out) (at + j) (f j) ≡ laid (at + m) (run 0 j g) (laid at (run 0 (j + 1) f) out) =
      set_laid_before (at + m) (run 0 j g) (laid at (run 0 j f) out) (at + j) (f j) (omega arith) (omega arith)
      ∙ ap (laid (at + m) (run 0 j g))
      (ap (λ (k : ℕ). set (laid at (run 0 j f) out) (at + k) (f j)) (sym a)
      ∙ set_laid_end at (run 0 j f) out (f j) (omega arith)
      ∙ ap (λ (x : List ℕ). laid at x out) (more f)) in
      let d : length (laid at (run 0 (j + 1) f) out) ≡ length out = length-laid at (run 0 (j + 1) f) out (omega (arith, length_run 0 (j + 1) f)) in
      ap (λ (x : List ℕ). set x (at + m + j) (g j)) first
      ∙ ap (λ (k : ℕ). set (laid (at + m) (run 0 j g) (laid at (run 0 (j + 1) f) out)) (at + m + k) (g j)) (sym b)
      ∙ set_laid_end (at + m) (run 0 j g) (laid at (run 0 (j + 1) f) out) (g j) (omega arith)
      ∙ ap (λ (x : List ℕ). laid (at + m) x (laid at (run 0 (j + 1) f) out)) (more g)
