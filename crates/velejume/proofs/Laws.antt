-- The block's checks before the solver and the judge.
use Prim.Native.Nat.{ℕ}
use mathlib.Core.Path.{◌≡◌, sym, ap, ◌∙◌}
use mathlib.Core.List.{List}
use Rattle.meaning.specs.Block.{Matrix, latest}
use Rattle.meaning.specs.Letters.{Mode}
use Rattle.meaning.specs.Refusals.{Numbers, block_refusal}
use Rattle.meaning.specs.Call.{Result, refuses, call_with, call_on}
use Rattle.meaning.specs.Margins.{refuses_margins, margin_call_on, margin_call}
use Rattle.meaning.specs.Judge.{rejects, judging_on, judging}
use Rattle.meaning.proofs.Call.{call_on_lem, call-block}
use Rattle.meaning.proofs.MarginCall.{margin_call_on_lem, margin_call-block}
use Rattle.meaning.proofs.Judging.{judging_on_lem, judging-block}
use Rattle.std.specs.Prelude.{Err}
use Rattle.layout.specs.declared.reads.Reads.{Reads}
use Rattle.layout.specs.Matrices.{matrix_of}
use Rattle.refusal.specs.declared.Refusal.{Refusal}
use Rattle.refusal.specs.Numbers.{refusal_numbers}
use Rattle.refusal.proofs.Told.{refusal-numbered}
use Rattle.block.specs.Answers.{Passes}
use Rattle.solve.specs.Outcomes.{result_of}
use Rattle.margins.specs.Outcomes as with_margins
use Rattle.verdict.specs.Verdicts.{judged_of}

-- numbers other than 0
refused_number : (x : Numbers) (e : Refusal) → refusal_numbers e ≡ x → x.number ≡ 0 → ⊥
refused_number x e h z = refusal-numbered e (ap (λ (y : Numbers). y.number) h ∙ z)

-- equal results have equal parts
pub by_parts : (r done : Result) → r ≡ done → (r.number ≡ done.number) × ((r.second ≡ done.second) × ((r.work ≡ done.work) × (r.out ≡ done.out)))
by_parts r done e = (ap (λ (x : Result). x.number) e, (ap (λ (x : Result). x.second) e, (ap (λ (x : Result). x.work) e, ap (λ (x : Result). x.out) e)))

-- a refusal of the block is the call's, and the judging's
pub refused_call : (mode : Mode) (b work out : List ℕ) (e : Refusal) → refusal_numbers e ≡ block_refusal latest b
    → result_of (Err e) work out ≡ call_with mode latest b work out
unfolding refuses
refused_call mode b work out e h =
    ap (λ (x : Numbers). refuses x work out) h ∙ sym (call-block mode latest b work out (refused_number (block_refusal latest b) e h))

pub refused_margins : (b work out margins : List ℕ) (e : Refusal) → refusal_numbers e ≡ block_refusal latest b
    → with_margins.result_of (Err e) work out margins ≡ margin_call b work out margins
unfolding margin_call refuses_margins refuses
refused_margins b work out margins e h =
    ap (λ (x : Numbers). refuses_margins x work out margins) h ∙ sym (margin_call-block latest b work out margins (refused_number (block_refusal latest b) e h))

pub refused_judging : (b a work : List ℕ) (e : Refusal) → refusal_numbers e ≡ block_refusal latest b
    → judged_of (Err e) work ≡ judging b a work
unfolding judging rejects
refused_judging b a work e h =
    ap (λ (x : Numbers). rejects x work) h ∙ sym (judging-block latest b a work (refused_number (block_refusal latest b) e h))

-- a block that passes is its reads
module _ (b : List ℕ) (r : Reads) (p : Passes b r) where
  pub passed-call : (mode : Mode) (work out : List ℕ) → call_on mode (matrix_of r) work out ≡ call_with mode latest b work out
  passed-call mode work out = ap (λ (M : Matrix). call_on mode M work out) p.matrix_is ∙ sym (call_on_lem mode latest b work out p.formed)

  pub passed-margins : (work out margins : List ℕ) → margin_call_on (matrix_of r) work out margins ≡ margin_call b work out margins
  unfolding margin_call
  passed-margins work out margins =
      ap (λ (M : Matrix). margin_call_on M work out margins) p.matrix_is ∙ sym (margin_call_on_lem latest b work out margins p.formed)

  pub passed-judging : (a work : List ℕ) → judging_on (matrix_of r) a work ≡ judging b a work
  unfolding judging
  passed-judging a work = ap (λ (M : Matrix). judging_on M a work) p.matrix_is ∙ sym (judging_on_lem latest b a work p.formed)
