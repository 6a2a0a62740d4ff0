-- The outcomes of the solver as those of a call on the matrix.
use Prim.Native.Nat.{ℕ, ◌+◌, ◌*◌, ◌≤◌, ◌<◌}
use mathlib.Core.Path.{◌≡◌, sym, ap, ◌∙◌, subst}
use mathlib.Core.List.{List}
use Rattle.std.specs.Prelude.{Err}
use native.Mathlib.Omega.{arith}
use lib.ListN.{length}
use Rattle.meaning.specs.Block.{Matrix}
use Rattle.meaning.specs.Active.{count}
use Rattle.meaning.specs.Charge.{least_cost}
use Rattle.meaning.specs.Letters.{Mode, charge_in}
use Rattle.meaning.specs.Table.{table}
use Rattle.meaning.specs.Answer.{answer, answer_size}
use Rattle.meaning.specs.Refusals.{Numbers, matrix_refusal}
use Rattle.meaning.specs.Call.{over, accepts, refuses, call_on}
use Rattle.meaning.proofs.Call.{on_accepts, on_refuses}
use Rattle.refusal.specs.declared.Refusal.{Refusal}
use Rattle.refusal.specs.Numbers.{refusal_number, refusal_second, refusal_numbers}
use Rattle.refusal.proofs.Told.{refusal_above}
use Rattle.ready.specs.Piling.{ThinColumns}
use Rattle.solve.specs.Outcomes.{result_of}
use Rattle.ready.proofs.Refused.{refused_number, refused_11, all_pass}

module _ (mode : Mode) (M : Matrix) (work out : List ℕ) where
  -- a refusal is the call's
  refusal-call : (n s : ℕ) → matrix_refusal M (length work) (length out) ≡ record { number = n; second = s } → 0 < n
      → record { number = n; second = s; work = work; out = out } ≡ call_on mode M work out
  unfolding refuses
  refusal-call n s e l = sym (on_refuses mode M work out (refused_number _ n s e l) ∙ ap (λ (x : Numbers). refuses x work out) e)

  -- 9 or 10
  pub refused-call : (e : Refusal) → matrix_refusal M (length work) (length out) ≡ refusal_numbers e → result_of (Err e) work out ≡ call_on mode M work out
  refused-call e h = refusal-call (refusal_number e) (refusal_second e) h (refusal_above e)

  module _ (t : ℕ) (h : ThinColumns M t) where
    module _ (room : M.columns * t ≤ length work) (n : ℕ) (e : count M ≡ n) where
      size : 17 + n + 2 * M.columns ≡ answer_size M
      unfolding answer_size
      size = ap (λ (x : ℕ). 17 + x + 2 * M.columns) (sym e)

      -- 11
      pub output_call : length out < 17 + n + 2 * M.columns
          → record { number = 11; second = 17 + n + 2 * M.columns; work = work; out = out } ≡ call_on mode M work out
      output_call l =
          refusal-call 11 (17 + n + 2 * M.columns)
          (refused_11 M (length work) (length out) t h room (subst (λ (x : ℕ). length out < x) size l)
          ∙ ap (λ (x : ℕ). record { number = 11; second = x }) (sym size)) (omega arith)

      -- 0
      pub cost-call : (work' out' : List ℕ) (cost : ℕ) → 17 + n + 2 * M.columns ≤ length out → cost ≡ least_cost (charge_in mode) M
          → work' ≡ over (table (charge_in mode) M) work → out' ≡ over (answer mode M) out
          → record { number = 0; second = cost; work = work'; out = out' } ≡ call_on mode M work out
      unfolding accepts
      cost-call work' out' cost l c w o =
          (λ i. record { number = 0; second = c i; work = w i; out = o i })
          ∙ sym (on_accepts mode M work out (ap (λ (x : Numbers). x.number) (all_pass M (length work) (length out) t h room (subst (λ (x : ℕ). x ≤ length out) size l))))
