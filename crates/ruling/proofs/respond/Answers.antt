use borrow.Author.Tests.{lt-ltb, le-ltb}
use mathlib.Core.Path.{sym, ap, ◌∙◌}
use mathlib.Core.List.{List}
use mathlib.Core.Logic.{⊎_elim}
use Prim.Native.Nat.{ℕ}
use lib.ListN.{length, length-replicate}
use Rattle.meaning.specs.Call.{over}
use Rattle.text.specs.Verdict.{judged_text}
use Rattle.ruling.proofs.Laws.{long-block, long-answer, judged}
use Rattle.ruling.proofs.respond.Goals as goal

pub returns-then-block-gt65536 : goal.returns-then-block-gt65536
unfolding judged_text
returns-then-block-gt65536 c =
    let b = c.args.block.now in
    let a = c.args.answer.now in
    let e = c.write_verdict.ensures in
    let t = ⊎_elim (λ w. long-block b a w) (λ w. long-answer b a w.0 (lt-ltb 65536 (length a) w.1)) c.then-block-gt65536.either in
    record { value = (e.value ∙ ap length t, e.upper_bound); page_after = e.text_after ∙ ap (λ (x : List ℕ). over x c.args.page.now) t }

-- by the law: a search would count the entries one by one
pub slice_bounds-judge-end : goal.slice_bounds-judge-end
slice_bounds-judge-end c = sym (length-replicate {A = ℕ} _ 0)

pub returns : goal.returns
returns c =
    let f = c.judge-r.ensures in
    let e = c.write_verdict-2.ensures in
    let t = judged c.args.block.now c.args.answer.now c.if-block-gt65536.false (le-ltb 65536 (length c.args.answer.now) c.if-answer-gt65536.false) f.number_value f.second_value in
    record { value = (e.value ∙ ap length t, e.upper_bound); page_after = e.text_after ∙ ap (λ (x : List ℕ). over x c.args.page.now) t }
