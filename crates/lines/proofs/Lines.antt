-- The line of the sides by its cases, and that of two numbers. Assumes nothing.
use Prim.Native.Nat.{ℕ}
use mathlib.Core.Path.{◌≡◌}
use mathlib.Core.List.{List, ◌++◌, append_assoc, map}
use borrow.Author.Tests.{eq-eqb, ne_eqb}
use lib.ListN.{length}
use Rattle.lines.specs.Line.{decimal, mark, line, sides_word, none_word, at_word, sides_text, numbers_line}

pub sides_none : (s : List ℕ) → length s ≡ 0 → line sides_word none_word ≡ line sides_word (sides_text s)
sides_none s h = rw (eq-eqb (length s) 0 h)

pub sides-some : (s : List ℕ) → (length s ≡ 0 → ⊥) → line sides_word (map mark s) ≡ line sides_word (sides_text s)
sides-some s h = rw (ne_eqb (length s) 0 h)

pub numbers_is : (w : List ℕ) (x y : ℕ) → w ++ (decimal x ++ line at_word (decimal y)) ≡ numbers_line w x y
numbers_is w x y = simp append_assoc
