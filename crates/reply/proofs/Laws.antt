-- The output of an accepted call is a whole answer block; and what is printed, case by case.
use Prim.Native.Nat.{ℕ, ◌*◌, ◌≤◌, ◌<◌}
use mathlib.Core.Path.{◌≡◌, refl, sym, ap, ◌∙◌, subst}
use mathlib.Core.Bool.{Bool, true, false, cond}
use mathlib.Core.List.{List}
use lib.ListN.{length}
use lib.Dec.{eqb}
use borrow.Author.Tests.{eqb-true, eqb-false, lt-ltb, le-ltb}
use Rattle.meaning.specs.Numbers.{word}
use Rattle.meaning.specs.Block.{latest, matrix_of}
use Rattle.meaning.specs.Letters.{Mode, general, heterozygous}
use Rattle.meaning.specs.Refusals.{refusal}
use Rattle.meaning.specs.Call.{Result, over, refuses, call_with}
use Rattle.meaning.specs.Margins.{margin_size, margin_call_with, margin_call}
use Rattle.meaning.proofs.Formed.{Accepted, accepted}
use Rattle.meaning.proofs.Call.{call-refuses}
use Rattle.text.specs.Text.{refusal_text, text_of, margin_text_of}
use Rattle.text.specs.Put.{Whole}
use Rattle.text.proofs.Accepted.{accepted_whole}
use Rattle.text.proofs.Margins.{margins_only, margins-whole, margins-run}
use Rattle.std.specs.Prelude.{Option, None, Some}
use Rattle.options.specs.declared.Asked.{Asked}
use Rattle.options.specs.declared.Asked.TheVariants.{AllHeterozygous, Margins}
use Rattle.reply.specs.Printed.{lent, printed, lent_margins, printed_margins}
use Rattle.reply.specs.Asked.{printed_for}

module _ (mode : Mode) (b work out : List ℕ) where
  -- number 0 is given only on acceptance, and the output then starts with the answer block
  pub whole_out : (call_with mode latest b work out).number ≡ 0 → Whole (call_with mode latest b work out).out
  unfolding refuses
  whole_out z = go (eqb (refusal latest b (length work) (length out)).number 0) refl
    where
      go : (t : Bool) → eqb (refusal latest b (length work) (length out)).number 0 ≡ t → Whole (call_with mode latest b work out).out
      go true e =
          let r : (refusal latest b (length work) (length out)).number ≡ 0 = eqb-true _ 0 e in
          accepted_whole mode latest b work out (accepted latest b (length work) (length out) r)
      go false e =
          let n : (refusal latest b (length work) (length out)).number ≡ 0 → ⊥ = eqb-false _ 0 e in
          absurd (n (sym (ap (λ (x : Result). x.number) (call-refuses mode latest b work out n)) ∙ z))

pub printed-long : (mode : Mode) (input : List ℕ) → 65536 < length input → printed mode input ≡ refusal_text 12 65536
unfolding printed
printed-long mode input l = ap (λ (t : Bool). cond t (refusal_text 12 65536) (text_of (lent mode input).number (lent mode input).second (lent mode input).out)) (lt-ltb 65536 (length input) l)

pub printed-call : (mode : Mode) (input : List ℕ) → length input ≤ 65536 → printed mode input ≡ text_of (lent mode input).number (lent mode input).second (lent mode input).out
unfolding printed
printed-call mode input l = ap (λ (t : Bool). cond t (refusal_text 12 65536) (text_of (lent mode input).number (lent mode input).second (lent mode input).out)) (le-ltb 65536 (length input) l)

-- what a call with margins gives on number 0 can be printed
pub margins_fit : (b work out margins : List ℕ) (n : ℕ) (o m : List ℕ) → n ≡ (margin_call b work out margins).number → o ≡ (margin_call b work out margins).out
    → m ≡ (margin_call b work out margins).margins → (n ≡ 0 → Whole o) × (n ≡ 0 → 2 * word o 15 ≤ length m)
unfolding margin_call
margins_fit b work out margins n o m en eo em =
    ((λ z. subst Whole (sym eo) (whole z)), λ z. subst (λ (x : List ℕ). 2 * word x 15 ≤ length m) (sym eo) (subst (λ (x : List ℕ). 2 * word (margin_call_with latest b work out margins).out 15 ≤ length x) (sym em) (fits z)))
  where
    given : n ≡ 0 → Accepted latest b (length work) (length out) × (margin_size (matrix_of b) ≤ length margins)
    given z = margins_only latest b work out margins (sym en ∙ z)

    whole : n ≡ 0 → Whole (margin_call_with latest b work out margins).out
    whole z = margins-whole latest b work out margins (given z).0 (given z).1

    fits : n ≡ 0 → 2 * word (margin_call_with latest b work out margins).out 15 ≤ length (margin_call_with latest b work out margins).margins
    fits z = margins-run latest b work out margins (given z).0 (given z).1

-- the text with the margins, case by case
pub margins-long : (input : List ℕ) → 65536 < length input → printed_margins input ≡ refusal_text 12 65536
unfolding printed_margins
margins-long input l =
    ap (λ (t : Bool). cond t (refusal_text 12 65536) (margin_text_of (lent_margins input).number (lent_margins input).second (lent_margins input).out (lent_margins input).margins))
    (lt-ltb 65536 (length input) l)

pub margins-call : (input : List ℕ) → length input ≤ 65536
    → printed_margins input ≡ margin_text_of (lent_margins input).number (lent_margins input).second (lent_margins input).out (lent_margins input).margins
unfolding printed_margins
margins-call input l =
    ap (λ (t : Bool). cond t (refusal_text 12 65536) (margin_text_of (lent_margins input).number (lent_margins input).second (lent_margins input).out (lent_margins input).margins))
    (le-ltb 65536 (length input) l)

-- an input that is too long, whatever is asked for
pub long : (asked : Option Asked) (input : List ℕ) → 65536 < length input → refusal_text 12 65536 ≡ printed_for asked input
long None input l = sym (printed-long general input l)
long (Some AllHeterozygous) input l = sym (printed-long heterozygous input l)
long (Some Margins) input l = sym (margins-long input l)

-- a text at the start of the page, by another name of it
pub at_start : (page : List ℕ) {p q after : List ℕ} {n : ℕ} → p ≡ q → n ≡ length p → n ≤ length page → after ≡ over p page
    → ((n ≡ length q) × (n ≤ length page)) × (after ≡ over q page)
at_start page s l b e = ((l ∙ ap length s, b), e ∙ ap (λ (x : List ℕ). over x page) s)
