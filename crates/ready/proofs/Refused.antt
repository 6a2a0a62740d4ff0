-- The checks 9 to 11 of a matrix, one after the other, and its table once it is filled.
use Prim.Native.Nat.{ℕ, ◌*◌, ◌≤◌, ◌<◌}
use borrow.Author.Tests.{lt-ltb, le-ltb}
use lib.Dec.{ltb}
use lib.ListN.{length, drop}
use mathlib.Core.Bool.{Bool, cond}
use mathlib.Core.List.{List}
use mathlib.Core.Path.{◌≡◌, sym, ap, ◌∙◌, subst}
use native.Mathlib.Nat.{zero-add}
use native.Mathlib.Omega.{arith}
use Rattle.meaning.specs.Block.{Matrix}
use Rattle.meaning.specs.Active.{active_count}
use Rattle.meaning.specs.Answer.{answer_size}
use Rattle.meaning.specs.Charge.{Charge}
use Rattle.meaning.specs.Table.{column, table}
use Rattle.meaning.specs.Rule.{column_of}
use Rattle.meaning.specs.Call.{over}
use Rattle.meaning.specs.Refusals.{Numbers, passed, crowded, work_size, refuse, or_else, matrix_refusal}
use Rattle.meaning.proofs.Refusals.{or_pass, or_stop, test_pass, test_stop}
use Rattle.meaning.proofs.Rooms.{table_part}
use Rattle.meaning.proofs.Demand1.{crowded_pass}
use Rattle.ready.specs.Piling.{ThinColumns}

-- numbers other than 0
pub refused_number : (x : Numbers) (n s : ℕ) → x ≡ record { number = n; second = s } → 0 < n → x.number ≡ 0 → ⊥
refused_number x n s e l z = let q : n ≡ 0 = sym (ap (λ (y : Numbers). y.number) e) ∙ z in omega arith

module _ (M : Matrix) (work out : ℕ) where
  pub refused_9 : (x : Numbers) → crowded (active_count M) 0 M.columns ≡ x → 0 < x.number → matrix_refusal M work out ≡ x
  unfolding matrix_refusal
  refused_9 x e l = or_stop _ _ (refused_number _ x.number x.second e l) ∙ e

  module _ (t : ℕ) (h : ThinColumns M t) where
    work_is : M.columns * t ≡ work_size M
    unfolding work_size
    work_is = ap (λ (x : ℕ). M.columns * x) h.entries_are

    thin_pass : crowded (active_count M) 0 M.columns ≡ passed
    thin_pass = crowded_pass (active_count M) 0 M.columns (λ i l. subst (λ (x : ℕ). active_count M x ≤ 12) (sym (zero-add i)) (h.thin i l))

    after_9 : matrix_refusal M work out
        ≡ or_else (refuse (ltb work (work_size M)) 10 (work_size M)) (refuse (ltb out (answer_size M)) 11 (answer_size M))
    unfolding matrix_refusal
    after_9 = or_pass _ _ (ap (λ (x : Numbers). x.number) thin_pass)

    pub refused_10 : work < M.columns * t → matrix_refusal M work out ≡ record { number = 10; second = M.columns * t }
    refused_10 l =
        after_9
        ∙ test_stop (ltb work (work_size M)) 10 (work_size M) _ (lt-ltb work (work_size M) (subst (λ (x : ℕ). work < x) work_is l)) (omega arith)
        ∙ ap (λ (x : ℕ). record { number = 10; second = x }) (sym work_is)

    after_10 : M.columns * t ≤ work → matrix_refusal M work out ≡ refuse (ltb out (answer_size M)) 11 (answer_size M)
    after_10 k =
        after_9 ∙ test_pass (ltb work (work_size M)) 10 (work_size M) _ (le-ltb work (work_size M) (subst (λ (x : ℕ). x ≤ work) work_is k))

    pub refused_11 : M.columns * t ≤ work → out < answer_size M → matrix_refusal M work out ≡ record { number = 11; second = answer_size M }
    unfolding refuse
    refused_11 k l = after_10 k ∙ ap (λ (x : Bool). cond x (record { number = 11; second = answer_size M }) passed) (lt-ltb out (answer_size M) l)

    pub all_pass : M.columns * t ≤ work → answer_size M ≤ out → matrix_refusal M work out ≡ passed
    unfolding refuse
    all_pass k l = after_10 k ∙ ap (λ (x : Bool). cond x (record { number = 11; second = answer_size M }) passed) (le-ltb out (answer_size M) l)

-- the table in front of the room has right columns
pub columns-right : (C : Charge) (M : Matrix) (work filled : List ℕ) → filled ≡ over (table C M) work → (j : ℕ) → j < M.columns → column_of M filled j ≡ column C M j
columns-right C M work filled e j l = ap (λ (x : List ℕ). column_of M x j) e ∙ table_part C M j l (drop (length (table C M)) work)
