use Prim.Native.Nat.{◌+◌}
use borrow.Author.Tests.{tests}
use mathlib.Core.Logic.{◌≢◌}
use mathlib.Core.Path.{◌≡◌, ◌∙◌}
use Rattle.std.proofs.Common.{rules}
use Rattle.std.proofs.lemmas.Iterator.{YieldsList-from_slice, IsFirst-from_position}
use Rattle.std.proofs.lemmas.Iterator.Adapters.{serves_from_places}
use Rattle.layout.specs.Places.{end_at}
use Rattle.back.proofs.GoingOn.{listed_below, goes_until}
use Rattle.back.proofs.going_on.Goals as goal

pub position-requires-clause-callable : goal.position-requires-clause-callable
position-requires-clause-callable c = serves_from_places (YieldsList-from_slice c.args.list.now cc) (λ x q k. search rules)
    (λ x k m e. let inside = listed_below c.args.list.now _ c.requires.by_index x.now k m e in search (rules, inside))

pub returns : goal.returns
returns c =
    c.unwrap_or.ensures
    ∙ goes_until c.args.list.now (end_at c.args.places.now) (c.args.j + 1) c.requires.by_index_2 c.position.result
    (IsFirst-from_position _ _ c.position.result (λ r. end_at c.args.places.now r ≡ c.args.j + 1) (λ r. end_at c.args.places.now r ≢ c.args.j + 1)
    c.position.ensures.ran (YieldsList-from_slice c.args.list.now cc) (λ x q k. search (rules, tests)) (λ x q k. search (rules, tests)))
