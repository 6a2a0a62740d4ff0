use native.Mathlib.Omega.{arith}
use Rattle.ready.proofs.Piles.{piling, ends-inside, piling_lists, crowded_found, thin_found}
use Rattle.ready.proofs.piled.Goals as goal

pub heights-requires : goal.heights-requires
heights-requires c =
    let r = c.args.reads.now in
    let p = piling r c.places.ensures c.requires.n_in_bounds.1 in
    record { n_bound = (r.shape.few_reads, p.noted.room); by_index = λ i l. omega (arith, ends-inside _ _ _ _ p i l, p.room); unlisted = c.requires.unlisted }

pub returns-in-Err-clause-columns_found : goal.returns-in-Err-clause-columns_found
returns-in-Err-clause-columns_found c =
    let p = piling c.args.reads.now c.places.ensures c.requires.n_in_bounds.1 in
    let heighted = piling_lists _ _ _ _ p c.heights.new.lists c.heights.auto.lists in
    crowded_found _ _ _ _ heighted _ (λ j l. c.heights.ensures j (omega (arith, p.room))) _ c.in-Err.ensures.result_value

pub returns-in-Ok-clause-columns_found : goal.returns-in-Ok-clause-columns_found
returns-in-Ok-clause-columns_found c =
    let p = piling c.args.reads.now c.places.ensures c.requires.n_in_bounds.1 in
    let heighted = piling_lists _ _ _ _ p c.heights.new.lists c.heights.auto.lists in
    thin_found _ _ _ _ heighted _ (λ j l. c.heights.ensures j (omega (arith, p.room))) c.in-Ok.most c.entries.result
    c.in-Ok.ensures.pile_most c.entries.ensures
