-- The verdicts in their order, as the branches meet them.
use Prim.Native.Nat.{ℕ, ◌≤◌, ◌<◌}
use mathlib.Core.Bool.{Bool, true, false, not, ◌||◌}
use mathlib.Core.List.{List}
use mathlib.Core.Path.{◌≡◌, sym, ap, ap₂, ◌∙◌}
use lib.Dec.{ltb, eqb}
use borrow.Author.Tests.{lt-ltb, le-ltb}
use Rattle.meaning.specs.Block.{Matrix}
use Rattle.meaning.specs.Active.{count}
use Rattle.meaning.specs.Charge.{charge, least_cost}
use Rattle.meaning.specs.Refusals.{refuse, or_else}
use Rattle.meaning.specs.Judge.{stated_cost, stated_reads, stated_columns, malformed, other_counts, unknown_mark, false_dash, wrong_cost, not_least, other_answer, verdict}
use Rattle.verdict.specs.Stages.{Marked, Least}

-- what the code compares
pub counts_told : (M : Matrix) (a : List ℕ) (n : ℕ) → count M ≡ n → (not (eqb (stated_reads a) n) || not (eqb (stated_columns a) M.columns)) ≡ other_counts M a
unfolding other_counts
counts_told M a n e = ap (λ (x : ℕ). not (eqb (stated_reads a) x) || not (eqb (stated_columns a) M.columns)) (sym e)

-- each verdict, where those before it do not apply
module _ (M : Matrix) (a : List ℕ) where
  module _ (x : Bool) (m50 : x ≡ malformed a) where
    pub gives_50 : x ≡ true → record { number = 50; second = 0 } ≡ verdict M a
    unfolding verdict or_else refuse
    gives_50 h = sym (simp (← m50, h))

    module _ (p : x ≡ false) (y : Bool) (m51 : y ≡ other_counts M a) where
      pub gives_51 : y ≡ true → record { number = 51; second = 0 } ≡ verdict M a
      unfolding verdict or_else refuse
      gives_51 h = sym (simp (← m50, p, ← m51, h))

      module _ (q : y ≡ false) (z : Bool) (m52 : z ≡ unknown_mark a) where
        pub gives_52 : z ≡ true → record { number = 52; second = 0 } ≡ verdict M a
        unfolding verdict or_else refuse
        gives_52 h = sym (simp (← m50, p, ← m51, q, ← m52, h))

        pub is_marked : z ≡ false → Marked M a
        is_marked h = record { formed = sym m50 ∙ p; counted = sym m51 ∙ q; known = sym m52 ∙ h }

  module _ (s : Marked M a) (x : Bool) (m53 : x ≡ false_dash M a) where
    pub gives_53 : x ≡ true → record { number = 53; second = 0 } ≡ verdict M a
    unfolding verdict or_else refuse
    gives_53 h = sym (simp (s.formed, s.counted, s.known, ← m53, h))

    module _ (p : x ≡ false) (y : Bool) (m54 : y ≡ wrong_cost M a) where
      pub gives_54 : y ≡ true → record { number = 54; second = 0 } ≡ verdict M a
      unfolding verdict or_else refuse
      gives_54 h = sym (simp (s.formed, s.counted, s.known, ← m53, p, ← m54, h))

      -- with the stated cost and the least
      module _ (q : y ≡ false) (stated least : ℕ) (e : stated ≡ stated_cost a) (l : least ≡ least_cost charge M) where
        pub gives_55 : least < stated → record { number = 55; second = least } ≡ verdict M a
        unfolding verdict or_else refuse not_least
        gives_55 h = sym (simp (s.formed, s.counted, s.known, ← m53, p, ← m54, q, ← e, ← l, lt-ltb least stated h))

        pub is_least : stated ≤ least → Least M a
        unfolding not_least
        is_least h = record { marked = s; dashed = sym m53 ∙ p; weighed = sym m54 ∙ q; least = ap₂ ltb (sym l) (sym e) ∙ le-ltb least stated h }

  module _ (s : Least M a) (x : Bool) (m56 : x ≡ other_answer M a) where
    pub gives_56 : x ≡ true → record { number = 56; second = 0 } ≡ verdict M a
    unfolding verdict or_else refuse
    gives_56 h = sym (simp (s.marked.formed, s.marked.counted, s.marked.known, s.dashed, s.weighed, s.least, ← m56, h))

    pub gives_57 : x ≡ false → record { number = 57; second = 0 } ≡ verdict M a
    unfolding verdict or_else refuse
    gives_57 h = sym (simp (s.marked.formed, s.marked.counted, s.marked.known, s.dashed, s.weighed, s.least, ← m56, h))
