use lib.ListN.{length}
use Rattle.std.proofs.lemmas.Result.{err_from_is_err_and}
use Rattle.meaning.specs.Letters.{mode_of}
use Rattle.layout.specs.Matrices.{matrix_of}
use Rattle.solve.proofs.Calls.{refused-call}
use Rattle.solve.proofs.solve.Goals as goal

pub sized-requires : goal.sized-requires
sized-requires c = record { n_in_bounds = (c.requires.places_room, c.requires.lists_room); unlisted = c.requires.lists_empty }

pub returns-in_err-t : goal.returns-in_err-t
returns-in_err-t c =
    let a = c.args in
    let e = err_from_is_err_and c.from_residual.result c.from_residual.ensures.1 in
    rw (e.1, e.2) (refused-call (mode_of a.heterozygous) (matrix_of a.reads.now) a.work.now a.out.now _ (c.in_err-t.ensures.table_sized (length a.out.now)))

pub answered-requires : goal.answered-requires
answered-requires c =
    let (thin, room) = c.in_ok-t.ensures.table_sized in
    record { lists_room = c.in_ok-t.ensures.piling.room; thin_columns = thin; n_in_bounds = (c.requires.taken_room, c.requires.tally_room, room) }
