use Rattle.stated.proofs.Marks.{differ_told}
use Rattle.stated.proofs.other_sides.Goals as goal

pub returns : goal.returns
returns c = differ_told c.args.ours.now c.args.theirs.now c.requires _ c.ne.ensures
