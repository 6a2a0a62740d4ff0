use Rattle.stated.proofs.Weighing.{cost_told}
use Rattle.stated.proofs.stated.Stated.wrong_cost.Goals as goal

pub returns : goal.returns
returns c = cost_told _ c.args.self.now.answer.now c.long_at.result c.weight.result c.long_at.ensures.0 c.weight.ensures
