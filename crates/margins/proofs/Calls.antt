-- The outcomes of the solver, as those of a call with margins.
use Prim.Native.Nat.{ℕ, zero, suc, ◌+◌, ◌*◌, ◌≤◌, ◌<◌}
use borrow.Author.Tests.{lt-ltb, le-ltb, ltb-false, eqb-true}
use lib.Dec.{ltb, eqb}
use lib.ListN.{length, take, drop}
use lib.Seq.{take_at}
use mathlib.Core.Bool.{Bool, true, false, cond}
use mathlib.Core.List.{List, ◌++◌}
use mathlib.Core.Logic.{◌≢◌, ◌⊎◌, inl, inr}
use mathlib.Core.Path.{◌≡◌, refl, sym, ap, ◌∙◌}
use native.Mathlib.Decide.{ℕ_discrete}
use native.Mathlib.Omega.{arith}
use Rattle.meaning.specs.Block.{Matrix}
use Rattle.meaning.specs.Active.{count, active_count}
use Rattle.meaning.specs.Division.{Division}
use Rattle.meaning.specs.Charge.{charge, best, least_cost}
use Rattle.meaning.specs.Letters.{general, flips, haplotypes}
use Rattle.meaning.specs.Answer.{sides_of, letters_of, division_of, answer, answer_size}
use Rattle.meaning.specs.Refusals.{Numbers, passed, crowded, work_size, refuse, or_else, matrix_refusal}
use Rattle.meaning.specs.Call.{Result, over, accepts, refuses, call_on}
use Rattle.meaning.specs.Margins.{beside, margins_of, margin_size, margin_call_on}
use Rattle.meaning.proofs.Refusals.{or_pass, or_stop, or_else_zero, refuse_zero}
use Rattle.meaning.proofs.Formed.{crowded_zero}
use Rattle.meaning.proofs.Call.{on_accepts, on_refuses}
use Rattle.meaning.proofs.AnswerBytes.{behind, length-sides}
use Rattle.meaning.proofs.SidesRead.{sides_division}
use Rattle.meaning.proofs.MarginCall.{margin_on_refused, margin_on_short, margin_on_accepted}
use Rattle.layout.specs.Lists.{Thin}
use Rattle.written.specs.Output.{division_in}
use Rattle.std.specs.Prelude.{Err}
use Rattle.std.proofs.lemmas.Bool.{cases_lt}
use Rattle.refusal.specs.Numbers.{refusal_number, refusal_second}
use Rattle.refusal.specs.declared.Refusal.{Refusal}
use Rattle.refusal.specs.declared.Refusal.TheVariants.{Short, Version, Size, Counts, Length, Empty, Place, Cell, LeftOver, Crowded, Work, Output, Margins, Room}
use Rattle.solve.specs.Outcomes as solve
use Rattle.margins.specs.Outcomes.{result_of}

-- where the solver is given the output itself
module _ (M : Matrix) (work out margins : List ℕ) (i s : ℕ) (work' out' : List ℕ)
    (is : record { number = i; second = s; work = work'; out = out' } ≡ call_on general M work out) where
  abbrev given : Numbers
  given = matrix_refusal M (length work) (length out)

  number_is : i ≡ given.number
  unfolding call_on accepts refuses
  number_is = ap (λ (r : Result). r.number) is ∙ go (eqb given.number 0) refl
    where
      go : (t : Bool) → eqb given.number 0 ≡ t → (cond t (accepts general M work out) (refuses given work out)).number ≡ given.number
      go true e = sym (eqb-true given.number 0 e)
      go false e = refl

  -- what it refuses is refused so
  pub refused_so : i ≢ 0 → record { number = i; second = s; work = work'; out = out'; margins = margins } ≡ margin_call_on M work out margins
  refused_so n = ap (λ (r : Result). beside r margins) is ∙ sym (margin_on_refused M work out margins (λ z. n (number_is ∙ z)))

  module _ (z : i ≡ 0) where
    passes : given.number ≡ 0
    passes = sym number_is ∙ z

    parts : ((crowded (active_count M) 0 M.columns).number ≡ 0)
        × ((or_else (refuse (ltb (length work) (work_size M)) 10 (work_size M)) (refuse (ltb (length out) (answer_size M)) 11 (answer_size M))).number ≡ 0)
    unfolding matrix_refusal
    parts = or_else_zero _ _ passes

    -- what it accepts has no crowded column and room for the answer
    pub accepted_thin : Thin M
    accepted_thin j l = crowded_zero (active_count M) 0 M.columns parts.0 j (omega arith) (omega arith)

    pub output_fits : (n : ℕ) → count M ≡ n → 17 + n ≤ length out
    unfolding answer_size
    output_fits n e = omega (arith, ltb-false (length out) (answer_size M) (refuse_zero _ 11 (answer_size M) (omega arith) (or_else_zero _ _ parts.1).1))

    -- and the reported division stands in the output
    division_is : (n : ℕ) → count M ≡ n → division_in n out' ≡ best charge M
    unfolding accepts answer
    division_is n e =
        let d : Division = best charge M in
        let rest : List ℕ = drop (length (answer general M)) out in
        ap (λ (r : Result). division_in n r.out) (is ∙ on_accepts general M work out passes)
        ∙ ap (λ (x : List ℕ). division_of (take n x))
        (behind (least_cost charge M) (flips M d (haplotypes general M d)) (sides_of M d) (letters_of general M d false) (letters_of general M d true) rest)
        ∙ ap division_of (take_at (sides_of M d) (letters_of general M d false ++ (letters_of general M d true ++ rest)) n (length-sides M d ∙ e))
        ∙ sides_division charge M

    -- its margins complete the result
    pub accepted_so : (n : ℕ) → count M ≡ n → 2 * M.columns ≤ length margins → (margins' : List ℕ) → margins' ≡ over (margins_of M (division_in n out')) margins
        → record { number = i; second = s; work = work'; out = out'; margins = margins' } ≡ margin_call_on M work out margins
    unfolding margin_size
    accepted_so n c l margins' e =
        ap (λ (x : List ℕ). record { number = i; second = s; work = work'; out = out'; margins = x })
        (e ∙ ap (λ (d : Division). over (margins_of M d) margins) (division_is n c))
        ∙ ap (λ (r : Result). beside r (over (margins_of M (best charge M)) margins)) is
        ∙ sym (margin_on_accepted M work out margins passes l)

-- the checks one by one
or_assoc : (p q r : Numbers) → or_else p (or_else q r) ≡ or_else (or_else p q) r
unfolding or_else
or_assoc p q r = go (eqb p.number 0) refl
  where
    go : (t : Bool) → eqb p.number 0 ≡ t → cond t (cond (eqb q.number 0) r q) p ≡ cond (eqb (cond t q p).number 0) r (cond t q p)
    go true e = refl
    go false e = sym (ap (λ (t : Bool). cond t r p) e)

crowded_most : (height : ℕ → ℕ) (j n : ℕ) → (crowded height j n).number ≤ 10
unfolding crowded
crowded_most height j zero = omega arith
crowded_most height j (suc n) = go (ltb 12 (height j)) (crowded_most height (suc j) n)
  where
    go : (t : Bool) → (crowded height (suc j) n).number ≤ 10 → (cond t (record { number = 9; second = j }) (crowded height (suc j) n)).number ≤ 10
    go true l = omega arith
    go false l = l

-- where the solver is given an output that no answer fits, so that it refuses always
module _ (M : Matrix) (work : List ℕ) where
  -- 9 and 10
  abbrev before : Numbers
  before = or_else (crowded (active_count M) 0 M.columns) (refuse (ltb (length work) (work_size M)) 10 (work_size M))

  -- 11
  abbrev by_11 : Numbers
  by_11 = record { number = 11; second = answer_size M }

  before_most : before.number ≤ 10
  unfolding or_else refuse
  before_most = go (eqb (crowded (active_count M) 0 M.columns).number 0) (ltb (length work) (work_size M))
    where
      go : (t u : Bool) → (cond t (cond u (record { number = 10; second = work_size M }) passed) (crowded (active_count M) 0 M.columns)).number ≤ 10
      go true true = omega arith
      go true false = omega arith
      go false u = crowded_most (active_count M) 0 M.columns

  split : (out : ℕ) → matrix_refusal M (length work) out ≡ or_else before (refuse (ltb out (answer_size M)) 11 (answer_size M))
  unfolding matrix_refusal
  split out = or_assoc (crowded (active_count M) 0 M.columns) (refuse (ltb (length work) (work_size M)) 10 (work_size M)) _

  small_output : (out : ℕ) → out < answer_size M → matrix_refusal M (length work) out ≡ or_else before by_11
  unfolding refuse
  small_output out l = split out ∙ ap (λ (t : Bool). or_else before (cond t by_11 passed)) (lt-ltb out (answer_size M) l)

  large_output : (out : ℕ) → answer_size M ≤ out → matrix_refusal M (length work) out ≡ or_else before passed
  unfolding refuse
  large_output out l = split out ∙ ap (λ (t : Bool). or_else before (cond t by_11 passed)) (le-ltb out (answer_size M) l)

  stopped : before.number ≢ 0 → (out : ℕ) → matrix_refusal M (length work) out ≡ before
  stopped n out = split out ∙ or_stop before _ n

  module _ (none : List ℕ) (short : length none < 17) (i s : ℕ) (work' none' : List ℕ)
      (is : record { number = i; second = s; work = work'; out = none' } ≡ call_on general M work none) where
    given_none : matrix_refusal M (length work) (length none) ≡ or_else before by_11
    unfolding answer_size
    given_none = small_output (length none) (omega arith)

    -- 9 or 10 before, otherwise 11
    data Given : Type 0 where
      early : before.number ≢ 0 → or_else before by_11 ≡ before → Given
      late : before.number ≡ 0 → or_else before by_11 ≡ by_11 → Given

    given_so : Given
    given_so = go (ℕ_discrete before.number 0)
      where
        go : Dec (before.number ≡ 0) → Given
        go (yes z) = late z (or_pass before by_11 z)
        go (no n) = early n (or_stop before by_11 n)

    refused_always : (matrix_refusal M (length work) (length none)).number ≢ 0
    refused_always z = go given_so
      where
        first : (or_else before by_11).number ≡ 0
        first = sym (ap (λ (x : Numbers). x.number) given_none) ∙ z

        go : Given → ⊥
        go (early n e) = n (sym (ap (λ (x : Numbers). x.number) e) ∙ first)
        go (late b e) = omega (arith, first, ap (λ (x : Numbers). x.number) e)

    told : record { number = i; second = s; work = work'; out = none' } ≡ refuses (or_else before by_11) work none
    told = is ∙ on_refuses general M work none refused_always ∙ ap (λ (x : Numbers). refuses x work none) given_none

    number_told : i ≡ (or_else before by_11).number
    unfolding refuses
    number_told = ap (λ (r : Result). r.number) told

    number_most : i ≤ 11
    number_most = go given_so
      where
        go : Given → i ≤ 11
        go (early n e) = omega (arith, number_told, before_most, ap (λ (x : Numbers). x.number) e)
        go (late b e) = omega (arith, number_told, ap (λ (x : Numbers). x.number) e)

    -- so that it gives no cost
    pub no_cost : i ≢ 0
    no_cost z = refused_always (ap (λ (x : Numbers). x.number) given_none ∙ sym number_told ∙ z)

    module _ (out margins : List ℕ) where
      -- a refusal that is the same with the output itself
      same : matrix_refusal M (length work) (length out) ≡ or_else before by_11
          → record { number = i; second = s; work = work'; out = out; margins = margins } ≡ margin_call_on M work out margins
      unfolding refuses
      same e =
          ap (λ (r : Result). record { number = r.number; second = r.second; work = r.work; out = out; margins = margins }) told
          ∙ ap (λ (x : Numbers). beside (refuses x work out) margins) (sym e)
          ∙ sym (ap (λ (r : Result). beside r margins) (on_refuses general M work out refused))
          ∙ sym (margin_on_refused M work out margins refused)
        where
          refused : (matrix_refusal M (length work) (length out)).number ≢ 0
          refused z = no_cost (number_told ∙ sym (ap (λ (x : Numbers). x.number) e) ∙ z)

      -- 9 and 10
      pub early_so : i ≤ 10 → record { number = i; second = s; work = work'; out = out; margins = margins } ≡ margin_call_on M work out margins
      early_so l = go given_so
        where
          go : Given → record { number = i; second = s; work = work'; out = out; margins = margins } ≡ margin_call_on M work out margins
          go (early n e) = same (stopped n (length out) ∙ sym e)
          go (late b e) = let q : i ≡ 11 = number_told ∙ ap (λ (x : Numbers). x.number) e in absurd (omega arith)

      module _ (eleven : i ≡ 11) where
        passed_before : before.number ≡ 0
        passed_before = go given_so
          where
            go : Given → before.number ≡ 0
            go (early n e) = let q : i ≡ before.number = number_told ∙ ap (λ (x : Numbers). x.number) e in absurd (omega (arith, before_most))
            go (late b e) = b

        size_told : s ≡ answer_size M
        unfolding refuses
        size_told = ap (λ (r : Result). r.second) told ∙ ap (λ (x : Numbers). x.second) (or_pass before by_11 passed_before)

        -- 11
        pub output_so : length out < s → record { number = i; second = s; work = work'; out = out; margins = margins } ≡ margin_call_on M work out margins
        output_so l = same (small_output (length out) (omega (arith, size_told)))

        -- 13
        pub short_so : s ≤ length out → length margins < 2 * M.columns
            → record { number = 13; second = 2 * M.columns; work = work'; out = out; margins = margins } ≡ margin_call_on M work out margins
        unfolding refuses margin_size
        short_so l k =
            let e = large_output (length out) (omega (arith, size_told)) ∙ or_pass before passed passed_before in
            ap (λ (r : Result). record { number = 13; second = 2 * M.columns; work = r.work; out = out; margins = margins }) told
            ∙ sym (margin_on_short M work out margins (ap (λ (x : Numbers). x.number) e) k)

-- what the solver told of an output of one byte, with 11 told anew, is so of the output itself
module _ (M : Matrix) (work none : List ℕ) (short : length none < 17) (work' none' out margins : List ℕ) (k : length margins < 2 * M.columns) where
  -- what is told in place of e
  pub record Anew (e r : Refusal) : Type 0 where
    pub output : (size : ℕ) → e ≡ Output size → (length out < size → r ≡ e) × (size ≤ length out → r ≡ Margins (2 * M.columns))
    pub other : ((size : ℕ) → e ≢ Output size) → r ≡ e

  abbrev so : Refusal → Type 0
  so r = result_of (Err r) work' out margins ≡ margin_call_on M work out margins

  unchanged : (e : Refusal) → refusal_number e ≤ 10 → solve.result_of (Err e) work' none' ≡ call_on general M work none → so e
  unchanged e l is = early_so M work none short (refusal_number e) (refusal_second e) work' none' is out margins l

  never : (e : Refusal) → 12 ≤ refusal_number e → solve.result_of (Err e) work' none' ≡ call_on general M work none → (r : Refusal) → so r
  never e l is r = absurd (omega (arith, number_most M work none short (refusal_number e) (refusal_second e) work' none' is))

  pub told_anew : (e r : Refusal) → solve.result_of (Err e) work' none' ≡ call_on general M work none → Anew e r → so r
  told_anew Short r is a = rw (a.other (λ s q. cc)) (unchanged Short (omega arith) is)
  told_anew Version r is a = rw (a.other (λ s q. cc)) (unchanged Version (omega arith) is)
  told_anew Size r is a = rw (a.other (λ s q. cc)) (unchanged Size (omega arith) is)
  told_anew Counts r is a = rw (a.other (λ s q. cc)) (unchanged Counts (omega arith) is)
  told_anew (Length x) r is a = rw (a.other (λ s q. cc)) (unchanged (Length x) (omega arith) is)
  told_anew (Empty x) r is a = never (Empty x) (omega arith) is r
  told_anew (Place x) r is a = rw (a.other (λ s q. cc)) (unchanged (Place x) (omega arith) is)
  told_anew (Cell x) r is a = rw (a.other (λ s q. cc)) (unchanged (Cell x) (omega arith) is)
  told_anew LeftOver r is a = rw (a.other (λ s q. cc)) (unchanged LeftOver (omega arith) is)
  told_anew (Crowded j) r is a = rw (a.other (λ s q. cc)) (unchanged (Crowded j) (omega arith) is)
  told_anew (Work x) r is a = rw (a.other (λ s q. cc)) (unchanged (Work x) (omega arith) is)
  told_anew (Margins x) r is a = never (Margins x) (omega arith) is r
  told_anew (Room x) r is a = never (Room x) (omega arith) is r
  told_anew (Output size) r is a = go (cases_lt (length out) size)
    where
      go : (length out < size) ⊎ (size ≤ length out) → so r
      go (inl l) = rw ((a.output size refl).0 l) (output_so M work none short 11 size work' none' is out margins refl l)
      go (inr l) = rw ((a.output size refl).1 l) (short_so M work none short 11 size work' none' is out margins refl l k)
