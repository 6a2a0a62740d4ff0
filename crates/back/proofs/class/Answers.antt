use Prim.Native.Nat.{ℕ, ◌+◌}
use mathlib.Core.Path.{ap}
use Rattle.back.proofs.Classes.{class_lt, class_laid}
use Rattle.back.proofs.class.Goals as goal

pub returns : goal.returns
returns c =
    let a = c.args in
    let e = ap (λ (n : ℕ). a.low + n) (class_laid a.low a.digit a.i c.requires.0 c.requires.2 c.requires.3 c.requires.1) in
    (e, rw e (class_lt a.low a.digit a.i c.requires.0 c.requires.2 c.requires.3))
