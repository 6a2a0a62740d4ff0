use Rattle.std.proofs.Common.{◌≡◌, rules}
use mathlib.Core.Path.{◌∙◌}
use Rattle.meaning.specs.Judge.{false_dash_at}
use Rattle.layout.specs.Matrices.{matrix_of}
use Rattle.stated.specs.Stated.{dash_of}
use Rattle.stated.proofs.AtColumn.{dash_at, dash_columns}
use Rattle.stated.proofs.stated.Stated.false_dash.Goals as goal

pub returns : goal.returns
returns c =
    let M = matrix_of c.args.self.now.reads in
    let a = c.args.self.now.answer.now in
    c.any_side.ensures (false_dash_at M a) (λ j s x r stands post. let e : r ≡ dash_of x = search rules in e ∙ dash_at M a j s x stands) ∙ dash_columns M a
