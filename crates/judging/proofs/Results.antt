-- What is refused, and a verdict, as the results of a judging on the matrix.
use Prim.Native.Nat.{ℕ, ◌*◌, ◌≤◌, ◌<◌}
use mathlib.Core.Path.{◌≡◌, sym, ap, ◌∙◌}
use mathlib.Core.List.{List}
use Rattle.std.specs.Prelude.{Err}
use native.Mathlib.Nat.{le_refl}
use lib.ListN.{length}
use Rattle.meaning.specs.Block.{Matrix}
use Rattle.meaning.specs.Charge.{charge}
use Rattle.meaning.specs.Table.{table}
use Rattle.meaning.specs.Answer.{answer_size}
use Rattle.meaning.specs.Refusals.{Numbers, matrix_refusal}
use Rattle.meaning.specs.Call.{over}
use Rattle.meaning.specs.Judge.{verdict, judges, rejects, judging_on}
use Rattle.meaning.proofs.Judging.{judging_on-accepts, judging_on-refuses}
use Rattle.refusal.specs.declared.Refusal.{Refusal}
use Rattle.refusal.specs.Numbers.{refusal_number, refusal_second, refusal_numbers}
use Rattle.refusal.proofs.Told.{refusal_above}
use Rattle.ready.specs.Piling.{ThinColumns}
use Rattle.verdict.specs.Verdicts.{judged_of}
use Rattle.ready.proofs.Refused.{refused_number, all_pass}

module _ (M : Matrix) (a work : List ℕ) where
  -- a refusal is the judging's
  refusal-judging : (n s : ℕ) → matrix_refusal M (length work) (answer_size M) ≡ record { number = n; second = s } → 0 < n
      → record { number = n; second = s; work = work } ≡ judging_on M a work
  unfolding rejects
  refusal-judging n s e l = sym (judging_on-refuses M a work (refused_number _ n s e l) ∙ ap (λ (x : Numbers). rejects x work) e)

  -- 9 or 10
  pub refused-judging : (e : Refusal) → matrix_refusal M (length work) (answer_size M) ≡ refusal_numbers e → judged_of (Err e) work ≡ judging_on M a work
  refused-judging e h = refusal-judging (refusal_number e) (refusal_second e) h (refusal_above e)

  module _ (t : ℕ) (h : ThinColumns M t) where
    -- 50 to 57
    pub verdict-judging : (work' : List ℕ) (v : Numbers) → M.columns * t ≤ length work → v ≡ verdict M a → work' ≡ over (table charge M) work
        → record { number = v.number; second = v.second; work = work' } ≡ judging_on M a work
    unfolding judges
    verdict-judging work' v k e w =
        (λ i. record { number = (e i).number; second = (e i).second; work = w i })
        ∙ sym (judging_on-accepts M a work (ap (λ (x : Numbers). x.number) (all_pass M (length work) (answer_size M) t h k (le_refl (answer_size M)))))
