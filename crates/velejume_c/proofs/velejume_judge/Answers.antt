use Rattle.velejume_c.proofs.velejume_judge.Goals as goal

pub returns : goal.returns
returns c = let e = c.judge-j.ensures in record { value = e.number_value; second_after = e.second_value; work_after = e.work_after }
