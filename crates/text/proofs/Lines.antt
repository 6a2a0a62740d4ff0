-- An answer block's five lines, and the two of the margins. Assumes nothing.
use Prim.Native.Nat.{ℕ, ◌+◌, ◌-◌}
use mathlib.Core.Path.{◌≡◌}
use mathlib.Core.List.{List, ◌++◌, map}
use native.Mathlib.Nat.{add-sub_cancel_left}
use lib.ListN.{take, drop}
use Rattle.meaning.specs.Numbers.{word, long}
use Rattle.lines.specs.Line.{decimal, mark, line, sides_word, hap1_word, hap2_word, sides_text, margin1_word, margin2_word, run_text}
use Rattle.text.specs.Text.{cost_word, flips_word, answer_text, margins_text}

-- the sides and the letters as the code's parts of the block have them
pub answer_is : (b : List ℕ) (n m x y : ℕ) → n ≡ word b 13 → m ≡ word b 15 → x ≡ long b 5 → y ≡ long b 9
    → line cost_word (decimal x)
    ++ (line flips_word (decimal y)
    ++ (line sides_word (sides_text (take (17 + n - 17) (drop 17 b)))
    ++ (line hap1_word (map mark (take (17 + n + m - (17 + n)) (drop (17 + n) b)))
    ++ line hap2_word (map mark (take (17 + n + m + m - (17 + n + m)) (drop (17 + n + m) b))))))
    ≡ answer_text b
unfolding answer_text
answer_is b n m x y en em ex ey = simp add-sub_cancel_left (rw (en, em, ex, ey))

-- the margins as the code's parts of the run have them
pub margins_is : (b s : List ℕ) (m : ℕ) → m ≡ word b 15
    → answer_text b ++ (line margin1_word (run_text (take m s)) ++ line margin2_word (run_text (take (m + m - m) (drop m s)))) ≡ margins_text b s
unfolding margins_text
margins_is b s m e = simp add-sub_cancel_left (rw e)
