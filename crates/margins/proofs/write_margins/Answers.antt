use native.Mathlib.Omega.{arith}
use lib.ListN.{length-set}
use Rattle.margins.proofs.Writing.{margined_none, margined_more, margined_all}
use Rattle.margins.proofs.write_margins.Goals as goal

pub loop-j-init : goal.loop-j-init
loop-j-init c = margined_none c.args.m c.args.tally.now c.args.margins.now c.requires.1

pub letters_at-x-requires : goal.letters_at-x-requires
letters_at-x-requires c = omega (arith, c.loop-j-test.true, c.requires.0)

pub bounds-margins-j : goal.bounds-margins-j
bounds-margins-j c = omega (arith, c.loop-j.invariant.same_length, c.loop-j-test.true, c.requires.1)

pub overflow_add-margins : goal.overflow_add-margins
overflow_add-margins c = omega (arith, c.loop-j-test.true, c.requires.2)

pub bounds-margins-m : goal.bounds-margins-m
bounds-margins-m c = simp length-set (omega (arith, c.loop-j.invariant.same_length, c.loop-j-test.true, c.requires.1))

pub loop-j-preserved : goal.loop-j-preserved
loop-j-preserved c =
    margined_more c.args.m c.args.tally.now c.args.margins.now c.requires.1 c.loop-j.margins c.loop-j.j c.loop-j.invariant
    c.loop-j-test.true _ c.letters_at-x.ensures

pub shape_of-margins : goal.shape_of-margins
shape_of-margins c = c.loop-j.invariant.same_length

pub returns : goal.returns
returns c = margined_all c.args.m c.args.tally.now c.args.margins.now c.requires.1 c.loop-j.margins c.loop-j.j c.loop-j.invariant c.loop-j-test.false
