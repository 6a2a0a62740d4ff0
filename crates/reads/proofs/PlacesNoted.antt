-- What `places` has noted after some reads.
use Prim.Native.Nat.{ℕ, ◌+◌, ◌<◌}
use mathlib.Core.List.{List}
use mathlib.Core.Logic.{◌≢◌}
use mathlib.Core.Path.{◌≡◌, ap, ◌∙◌}
use native.Mathlib.Nat.{not-suc-le-zero}
use native.Mathlib.Omega.{arith}
use lib.ListN.{length, get_or, set}
use lib.Seq.{get_or-set_same, get_or-set_other}
use Rattle.std.proofs.Common.{below_more}
use Rattle.meaning.specs.Active.{read, end}
use Rattle.layout.specs.declared.runs.Place.{Place}
use Rattle.layout.specs.declared.shape.Shape.{Shape}
use Rattle.layout.specs.Reads.{matrix_in}
use Rattle.layout.specs.Places.{nowhere, start_at, first_at, end_at, cells_start}

-- the first r reads are noted
pub record Upto (s : Shape) (reads : List ℕ) (places : List Place) (r : ℕ) : Type 0 where
  pub starts : (k : ℕ) → k < r → start_at places k ≡ cells_start reads k
  pub firsts : (k : ℕ) → k < r → first_at places k ≡ (read (matrix_in s reads) k).first
  pub ends : (k : ℕ) → k < r → end_at places k ≡ end (read (matrix_in s reads) k)

pub upto_none : (s : Shape) (reads : List ℕ) (places : List Place) → Upto s reads places 0
upto_none s reads places =
    record {
      starts = λ k l. absurd (not-suc-le-zero l);
      firsts = λ k l. absurd (not-suc-le-zero l);
      ends = λ k l. absurd (not-suc-le-zero l);
    }

-- one place more
module _ (places : List Place) (r : ℕ) (place : Place) (room : r < length places) where
  abbrev stored : List Place
  stored = set places r place

  -- one of its three numbers: that of read r is new, and those before it stand
  each : (part : Place → ℕ) (g : ℕ → ℕ) → part place ≡ g r → ((k : ℕ) → k < r → part (get_or places k nowhere) ≡ g k)
      → (k : ℕ) → k < r + 1 → part (get_or stored k nowhere) ≡ g k
  each part g new old =
      below_more _ _
      (λ k l. let ne : k ≢ r = omega arith in ap part (get_or-set_other places r k place nowhere ne) ∙ old k l)
      (ap part (get_or-set_same places r place nowhere room) ∙ new)

  pub upto_more : (s : Shape) (reads : List ℕ) → Upto s reads places r → place.start ≡ cells_start reads r
      → place.first ≡ (read (matrix_in s reads) r).first → place.end ≡ end (read (matrix_in s reads) r) → Upto s reads stored (r + 1)
  upto_more s reads u es ef ee =
      record {
        starts = each (λ p. p.start) (cells_start reads) es u.starts;
        firsts = each (λ p. p.first) (λ k. (read (matrix_in s reads) k).first) ef u.firsts;
        ends = each (λ p. p.end) (λ k. end (read (matrix_in s reads) k)) ee u.ends;
      }
