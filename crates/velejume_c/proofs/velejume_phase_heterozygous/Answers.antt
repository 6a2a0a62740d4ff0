use Rattle.velejume_c.proofs.velejume_phase_heterozygous.Goals as goal

pub returns : goal.returns
returns c = let e = c.phase_heterozygous-h.ensures in record { value = e.number_value; second_after = e.second_value; work_after = e.work_after; out_after = e.out_after }
