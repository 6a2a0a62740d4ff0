use borrow.Author.Rules.{rules}
use Rattle.letters.proofs.Sides.{letters_own}
use Rattle.letters.proofs.letters_of.Goals as goal

pub returns : goal.returns
returns c = λ w is. search (rules, letters_own)
