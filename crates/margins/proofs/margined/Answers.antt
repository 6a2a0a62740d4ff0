use native.Mathlib.Omega.{arith}
use mathlib.Core.Path.{refl}
use Rattle.layout.specs.Matrices.{matrix_of}
use Rattle.written.proofs.Lettering.{sides-length}
use Rattle.margins.proofs.Writing.{sides-margins}
use Rattle.margins.proofs.margined.Goals as goal

pub tally-requires : goal.tally-requires
tally-requires c =
    let k = sides-length c.args.reads.now.shape.n c.args.out.now c.requires.n_in_bounds.0 in
    record { thin = c.requires.thin; room = (omega arith, c.requires.n_in_bounds_2.1) }

pub returns : goal.returns
returns c =
    let r = c.args.reads.now in
    sides-margins (matrix_of r) r.shape.n c.args.out.now c.args.margins.now _ (c.write_margins.ensures _ _ c.tally.ensures refl)
