use mathlib.Core.Path.{◌≡◌}
use lib.ListN.{length}
use Rattle.meaning.specs.Rule.{shared_reads}
use Rattle.layout.specs.Matrices.{matrix_of}
use Rattle.sides.proofs.Back.{going_is, settled}
use Rattle.sides.proofs.WayBack.{going_fits, settle_fits}
use Rattle.sides.proofs.Table.back_at.Goals as goal

pub going_on-s-requires : goal.going_on-s-requires
going_on-s-requires c =
    let ready = c.args.self.now.listed.ready in
    let here = c.active_reads-list.ensures in
    let fits = going_fits _ _ _ _ ready c.args.j c.requires.j_lt_m _ here in
    record { few = fits.0; by_index = fits.1.0; by_index_2 = fits.1.1 }

pub settle-requires : goal.settle-requires
settle-requires c =
    let a = c.args in
    let t = a.self.now in
    let ready = t.listed.ready in
    let here = c.active_reads-list.ensures in
    -- those that go on are the shared reads
    let going : c.going_on-s.result ≡ length (shared_reads (matrix_of t.listed.reads) a.j) =
    going_is _ _ _ _ ready a.j c.requires.j_lt_m _ here c.going_on-s.result c.going_on-s.ensures in
    let fits = settle_fits _ _ _ _ ready a.j c.requires.j_lt_m _ here t.work.now (rw (← t.entries_are) t.room)
    c.going_on-s.result going a.sides.now c.requires.n_in_bounds c.requires.by_index in
    record { few = fits.0; by_index = fits.1.0; col_len = rw c.column_entries.ensures fits.1.1.0; by_index_2 = fits.1.1.1 }

pub returns : goal.returns
returns c =
    let a = c.args in
    let t = a.self.now in
    let ready = t.listed.ready in
    let here = c.active_reads-list.ensures in
    let going : c.going_on-s.result ≡ length (shared_reads (matrix_of t.listed.reads) a.j) =
    going_is _ _ _ _ ready a.j c.requires.j_lt_m _ here c.going_on-s.result c.going_on-s.ensures in
    settled _ _ _ _ ready a.j c.requires.j_lt_m _ here t.work.now
    c.going_on-s.result going a.sides.now c.settle.new.sides (rw c.column_entries.ensures at c.settle.ensures)
