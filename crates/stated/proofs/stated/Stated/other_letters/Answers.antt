use Rattle.std.proofs.Common.{◌≡◌, rules}
use mathlib.Core.Path.{◌∙◌}
use Rattle.layout.specs.Matrices.{matrix_of}
use Rattle.stated.specs.Stated.{other_of, other_letter_at}
use Rattle.stated.proofs.AtColumn.{other_at, other-columns}
use Rattle.stated.proofs.stated.Stated.other_letters.Goals as goal

pub returns : goal.returns
returns c =
    let M = matrix_of c.args.self.now.reads in
    let a = c.args.self.now.answer.now in
    c.any_side.ensures (other_letter_at M a) (λ j s x r stands post. let e : r ≡ other_of x = search rules in e ∙ other_at M a j s x stands) ∙ other-columns M a
