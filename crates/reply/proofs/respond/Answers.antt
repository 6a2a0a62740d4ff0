use mathlib.Core.Path.{◌≡◌, sym, ap, ◌∙◌, subst}
use Rattle.std.specs.Prelude.{Option, Some}
use Rattle.std.proofs.Common.{rules}
use lib.ListN.{replicate}
use Rattle.meaning.specs.Letters.{general, heterozygous}
use Rattle.meaning.specs.Call.{call, heterozygous_call}
use Rattle.text.specs.Text.{text_of, margin_text_of}
use Rattle.text.specs.Put.{Whole}
use Rattle.options.specs.declared.Asked.{Asked}
use Rattle.options.specs.declared.Asked.TheVariants.{AllHeterozygous, Margins}
use Rattle.reply.specs.Asked.{printed_for}
use Rattle.reply.proofs.Laws.{whole_out, margins_fit, printed-call, margins-call, long, at_start}
use Rattle.reply.proofs.respond.Goals as goal

pub returns-then-input-gt-LONGEST : goal.returns-then-input-gt-LONGEST
returns-then-input-gt-LONGEST c =
    let a = c.args in
    let e = c.too_long.ensures in
    let r = at_start a.page.now (long a.asked a.input.now c.if-input-gt-LONGEST.true) e.value.0 e.value.1 e.page_after in
    record { value = r.0; page_after = r.1 }

pub write_text-requires-clause-whole : goal.write_text-requires-clause-whole
unfolding call
write_text-requires-clause-whole c z =
    let f = c.phase-r.ensures in
    subst Whole (sym f.out_after) (whole_out general c.args.input.now (replicate 16384 0) (replicate 4096 0) (sym f.number_value ∙ z))

pub write_text-requires-in-Some-AllHeterozygous-clause-whole : goal.write_text-requires-in-Some-AllHeterozygous-clause-whole
unfolding heterozygous_call
write_text-requires-in-Some-AllHeterozygous-clause-whole c z =
    let f = c.phase_heterozygous-r.ensures in
    subst Whole (sym f.out_after) (whole_out heterozygous c.args.input.now (replicate 16384 0) (replicate 4096 0) (sym f.number_value ∙ z))

pub write_margins-requires-clause-whole : goal.write_margins-requires-clause-whole
write_margins-requires-clause-whole c =
    let f = c.phase_margins-r.ensures in
    (margins_fit c.args.input.now (replicate 16384 0) (replicate 4096 0) (replicate 2048 0) _ _ _ f.number_value f.out_after f.margins_after).0

pub write_margins-requires-clause-answer_in_bounds : goal.write_margins-requires-clause-answer_in_bounds
write_margins-requires-clause-answer_in_bounds c =
    let f = c.phase_margins-r.ensures in
    (margins_fit c.args.input.now (replicate 16384 0) (replicate 4096 0) (replicate 2048 0) _ _ _ f.number_value f.out_after f.margins_after).1

pub returns-in-None : goal.returns-in-None
unfolding call
returns-in-None c =
    let a = c.args in
    let f = c.phase-r.ensures in
    let e = c.write_text.ensures in
    let t =
    (λ i. text_of (f.number_value i) (f.second_value i) (f.out_after i))
    ∙ sym (printed-call general a.input.now c.if-input-gt-LONGEST.false)
    ∙ ap (λ (x : Option Asked). printed_for x a.input.now) (sym c.in-None.is) in
    let r = at_start a.page.now t e.value e.upper_bound e.text_after in
    record { value = r.0; page_after = r.1 }

pub returns-in-Some-AllHeterozygous : goal.returns-in-Some-AllHeterozygous
unfolding heterozygous_call
returns-in-Some-AllHeterozygous c =
    let a = c.args in
    let f = c.phase_heterozygous-r.ensures in
    let e = c.write_text-in-Some-AllHeterozygous.ensures in
    let w : a.asked ≡ Some AllHeterozygous = search rules in
    let t =
    (λ i. text_of (f.number_value i) (f.second_value i) (f.out_after i))
    ∙ sym (printed-call heterozygous a.input.now c.if-input-gt-LONGEST.false)
    ∙ ap (λ (x : Option Asked). printed_for x a.input.now) (sym w) in
    let r = at_start a.page.now t e.value e.upper_bound e.text_after in
    record { value = r.0; page_after = r.1 }

pub returns-in-Some-Margins : goal.returns-in-Some-Margins
returns-in-Some-Margins c =
    let a = c.args in
    let f = c.phase_margins-r.ensures in
    let e = c.write_margins.ensures in
    let w : a.asked ≡ Some Margins = search rules in
    let t =
    (λ i. margin_text_of (f.number_value i) (f.second_value i) (f.out_after i) (f.margins_after i))
    ∙ sym (margins-call a.input.now c.if-input-gt-LONGEST.false)
    ∙ ap (λ (x : Option Asked). printed_for x a.input.now) (sym w) in
    let r = at_start a.page.now t e.value e.upper_bound e.text_after in
    record { value = r.0; page_after = r.1 }
