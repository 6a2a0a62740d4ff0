use borrow.Author.Rules.{rules}
use native.Mathlib.Omega.{arith}
use mathlib.Core.Bool.{true, false}
use Rattle.sums.specs.Sums.{sums_of}
use Rattle.letters.proofs.Sides.{choices_crossed, choices_own}
use Rattle.letters.proofs.choices.Goals as goal

pub overflow_add-x : goal.overflow_add-x
overflow_add-x c = let s = c.requires in omega (arith, s false false, s true true)

pub overflow_add-y : goal.overflow_add-y
overflow_add-y c = let s = c.requires in omega (arith, s false true, s true false)

pub returns-then-heterozygous : goal.returns-then-heterozygous
returns-then-heterozygous c = search (rules, choices_crossed)

pub returns : goal.returns
returns c = let s = c.args in choices_own s.heterozygous (sums_of s.s) c.if-heterozygous.false
