use native.Mathlib.Omega.{arith}
use Prim.Native.Nat.{ℕ}
use lib.ListN.{length, replicate}
use mathlib.Core.Path.{ap, ◌∙◌}
use Rattle.meaning.specs.Letters.{mode_of}
use Rattle.column.proofs.Laws.{filled}
use Rattle.column.proofs.Column.fill.Goals as goal

pub returns : goal.returns
returns c =
    let s = c.args.self.now in
    let cut = c.split_at_mut-own.ensures in
    filled (mode_of s.heterozygous).charged s.w.now s.turn.now s.taken.now s.p (length c.args.part.now) c.charge_all.new.part c.fill.new.self
    c.charge_all.ensures (omega arith) c.requires.p_in_bounds
    (c.fill.ensures.after (λ y e. e) ∙ ap (λ (n : ℕ). replicate n 0) (omega arith))
