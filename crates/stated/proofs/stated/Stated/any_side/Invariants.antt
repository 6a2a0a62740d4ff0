use Prim.Native.Nat.{ℕ}
use mathlib.Core.Bool.{Bool, false}
use mathlib.Core.Path.{◌≡◌}
use Rattle.meaning.specs.Numbers.{any_to}
use Rattle.meaning.specs.Division.{Side}
use Rattle.layout.specs.Matrices.{matrix_of}
use Rattle.stated.specs.declared.side.SideAt.{SideAt}
use Rattle.stated.specs.Stated.{StandsAt, either_side}
use Rattle.stated.proofs.stated.Stated.any_side.Given as goal

-- whatever the test says of the sides, it passes at no column before j
abbrev pub invariant-loop-j : goal.invariant-loop-j
invariant-loop-j g l =
    (passes : ℕ → Side → Bool)
    → ((j : ℕ) (s : Side) (x : SideAt) (r : Bool) → StandsAt (matrix_of l.self.reads) l.self.answer.now j s x → goal.F-post g l.test x r → r ≡ passes j s)
    → any_to l.j (either_side passes) ≡ false
