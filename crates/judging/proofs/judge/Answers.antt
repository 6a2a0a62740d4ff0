use Rattle.std.proofs.lemmas.Result.{err_from_is_err_and}
use Rattle.meaning.specs.Answer.{answer_size}
use Rattle.layout.specs.Matrices.{matrix_of}
use Rattle.judging.proofs.Results.{refused-judging}
use Rattle.judging.proofs.judge.Goals as goal

pub sized-requires : goal.sized-requires
sized-requires c = let r = c.requires.0 in record { n_in_bounds = (r.places_room, r.lists_room); unlisted = r.lists_empty }

pub returns-in_err-t : goal.returns-in_err-t
returns-in_err-t c =
    let a = c.args in
    let e = err_from_is_err_and c.from_residual.result c.from_residual.ensures.1 in
    rw (e.1, e.2) (refused-judging (matrix_of a.reads.now) a.answer.now a.work.now _ (c.in_err-t.ensures.table_sized (answer_size (matrix_of a.reads.now))))

pub judged-v-requires : goal.judged-v-requires
judged-v-requires c =
    let r = c.requires.0 in
    let (thin, room) = c.in_ok-t.ensures.table_sized in
    record { lists_room = c.in_ok-t.ensures.piling.room; thin_columns = thin; n_in_bounds = (r.taken_room, r.tally_room, c.requires.1, room) }
