use mathlib.Core.Bool.{true, false}
use Rattle.stated.proofs.AtColumn.{none_yet, found_first, found_second, found_neither}
use Rattle.stated.proofs.stated.Stated.any_side.Goals as goal

pub loop-j-init : goal.loop-j-init
loop-j-init g c = λ passes law. none_yet _

pub returns-then-test : goal.returns-then-test
returns-then-test g c = λ passes law.
    let j = c.loop-j.j in
    let at = c.column_at-c in
    found_first passes j _ (law j false at.result.first _ at.ensures.first_stands c.test.ensures) _ c.loop-j-test.true c.if-test.true

pub returns-then-test-2 : goal.returns-then-test-2
returns-then-test-2 g c = λ passes law.
    let j = c.loop-j.j in
    let at = c.column_at-c in
    found_second passes j _ (law j false at.result.first _ at.ensures.first_stands c.test.ensures) c.if-test.false _
    (law j true at.result.second _ at.ensures.second_stands c.test-in-loop-j.ensures) _ c.loop-j-test.true c.if-test-2.true

pub loop-j-preserved : goal.loop-j-preserved
loop-j-preserved g c = λ passes law.
    let j = c.loop-j.j in
    let at = c.column_at-c in
    found_neither passes j _ (law j false at.result.first _ at.ensures.first_stands c.test.ensures) c.if-test.false _
    (law j true at.result.second _ at.ensures.second_stands c.test-in-loop-j.ensures) (c.loop-j.invariant passes law) c.if-test-2.false
