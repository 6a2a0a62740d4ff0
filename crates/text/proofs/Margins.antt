-- An accepted call with margins: its output is a whole answer block, its run has both haplotypes' margins, and what is printed of them.
use Prim.Native.Nat.{ℕ, suc, ◌*◌, ◌≤◌}
use mathlib.Core.Path.{◌≡◌, sym, ap, ◌∙◌, subst}
use mathlib.Core.Bool.{true, false}
use mathlib.Core.List.{List, ◌++◌, append_assoc}
use native.Mathlib.Omega.{arith}
use lib.ListN.{length, drop, length-append, length-drop}
use lib.Seq.{take_at, drop_at}
use Rattle.meaning.specs.Numbers.{word}
use Rattle.meaning.specs.Block.{Matrix, matrix_of}
use Rattle.meaning.specs.Division.{Division}
use Rattle.meaning.specs.Charge.{charge, best}
use Rattle.meaning.specs.Letters.{general}
use Rattle.meaning.specs.Call.{Result, accepts}
use Rattle.meaning.specs.Margins.{side_margins, margins_of, margin_size, MarginResult, accepts_margins, margin_call_with}
use Rattle.meaning.proofs.Modes.{general_fair}
use Rattle.meaning.proofs.Formed.{Accepted}
use Rattle.meaning.proofs.Bounds.{Bytes}
use Rattle.meaning.proofs.Margins.{length-side-margins, length-margins}
use Rattle.meaning.proofs.MarginCall.{MarginGiven, of-call, margin_room, nothing, margin_given, margin_refused, margin_accepted}
use Rattle.meaning.proofs.Demand1.{demand1_accepted}
use Rattle.lines.specs.Line.{line, margin1_word, margin2_word, run_text}
use Rattle.text.specs.Text.{answer_text, margins_text, margin_text_of}
use Rattle.text.specs.Put.{Whole}
use Rattle.text.proofs.Accepted.{lines_in, accepted_columns, accepted_whole, accepted_answer}

-- the first m numbers of a run, and the next m
margin_lines : (block first second rest : List ℕ) → length first ≡ word block 15 → length second ≡ word block 15
    → margins_text block ((first ++ second) ++ rest) ≡ answer_text block ++ (line margin1_word (run_text first) ++ line margin2_word (run_text second))
unfolding margins_text
margin_lines block first second rest e f =
    rw (
      append_assoc first second rest,
      take_at first (second ++ rest) (word block 15) e,
      drop_at first (second ++ rest) (word block 15) e,
      take_at second rest (word block 15) f,
    )

module _ (newest : ℕ) (b work out margins : List ℕ) where
  abbrev M : Matrix
  M = matrix_of b

  abbrev d : Division
  d = best charge M

  abbrev result : MarginResult
  result = margin_call_with newest b work out margins

  -- number 0 is given only on acceptance
  pub margins_only : (margin_call_with newest b work out margins).number ≡ 0
      → Accepted newest b (length work) (length out) × (margin_size (matrix_of b) ≤ length margins)
  margins_only z = go (margin_given newest b (length work) (length out) (length margins))
    where
      never : {i s : ℕ} → MarginGiven newest b (length work) (length out) (length margins) (suc i) s → ⊥
      never {i} g =
          let e : 0 ≡ suc i = sym z ∙ ap (λ (r : MarginResult). r.number) (margin_refused newest b work out margins g) in
          omega arith

      go : {i s : ℕ} → MarginGiven newest b (length work) (length out) (length margins) i s
          → Accepted newest b (length work) (length out) × (margin_size M ≤ length margins)
      go (of-call g) = absurd (never (of-call g))
      go (margin_room a l) = absurd (never (margin_room a l))
      go (nothing a l) = (a, l)

  module _ (a : Accepted newest b (length work) (length out)) (enough : margin_size (matrix_of b) ≤ length margins) where
    given : result ≡ accepts_margins M work out margins
    given = margin_accepted newest b work out margins a enough

    pub margins-whole : Whole (margin_call_with newest b work out margins).out
    unfolding accepts_margins
    margins-whole =
        subst Whole (ap (λ (r : Result). r.out) (demand1_accepted general newest b work out a) ∙ sym (ap (λ (r : MarginResult). r.out) given))
        (accepted_whole general newest b work out a)

    pub margins-run : 2 * word (margin_call_with newest b work out margins).out 15 ≤ length (margin_call_with newest b work out margins).margins
    unfolding accepts_margins accepts margin_size
    margins-run =
        subst (λ (r : MarginResult). 2 * word r.out 15 ≤ length r.margins) (sym given)
        (omega (
          arith,
          accepted_columns general newest b work out a,
          length-margins M d,
          length-append (margins_of M d) (drop (length (margins_of M d)) margins),
          length-drop (length (margins_of M d)) margins,
        ))

    -- the seven lines are printed
    pub margins-printed : Bytes b → let r = margin_call_with newest b work out margins in margin_text_of r.number r.second r.out r.margins
        ≡ lines_in general (matrix_of b)
        ++ (line margin1_word (run_text (side_margins (matrix_of b) (best charge (matrix_of b)) false))
        ++ line margin2_word (run_text (side_margins (matrix_of b) (best charge (matrix_of b)) true)))
    unfolding accepts_margins accepts margins_of margin_text_of
    margins-printed bytes =
        let c = accepted_columns general newest b work out a in
        ap (λ (r : MarginResult). margin_text_of r.number r.second r.out r.margins) given
        ∙ margin_lines _ (side_margins M d false) (side_margins M d true) (drop (length (margins_of M d)) margins)
        (length-side-margins M d false ∙ sym c) (length-side-margins M d true ∙ sym c)
        ∙ ap (λ (t : List ℕ). t ++ (line margin1_word (run_text (side_margins M d false)) ++ line margin2_word (run_text (side_margins M d true))))
        (accepted_answer general newest b work out a general_fair bytes)
