use Rattle.velejume_c.proofs.velejume_convert.Goals as goal

pub returns : goal.returns
returns c = let e = c.convert-c.ensures in record { value = e.number_value; second_after = e.second_value; out_after = e.out_after }
