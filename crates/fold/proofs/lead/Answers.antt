use borrow.Author.Tests.{eq-eqb, ne_eqb}
use mathlib.Core.Path.{refl}
use Rattle.fold.proofs.lead.Goals as goal

pub returns-then-seen-eq0 : goal.returns-then-seen-eq0
returns-then-seen-eq0 c = rw (eq-eqb _ _ c.if-seen-eq0.true) refl

pub returns-else-seen-eq0 : goal.returns-else-seen-eq0
returns-else-seen-eq0 c = rw (ne_eqb _ _ c.if-seen-eq0.false) refl
