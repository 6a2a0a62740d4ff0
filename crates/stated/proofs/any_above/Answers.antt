use Rattle.std.proofs.Common.{◌<◌, ◌≤◌, rules, tests}
use Rattle.std.proofs.lemmas.Iterator.{cases_from_any, YieldsList-from_slice}
use Rattle.stated.proofs.Marks.{above_told}
use Rattle.stated.proofs.any_above.Goals as goal

pub returns : goal.returns
returns c =
    let xs = c.args.bytes.now in
    let most = c.args.most in
    above_told most xs _
    (cases_from_any _ _ _ (λ x. most < x) (λ x. x ≤ most) c.any.ensures.ran (YieldsList-from_slice xs cc) (λ x q k. search (rules, tests)) (λ x q k. search (rules, tests)))
