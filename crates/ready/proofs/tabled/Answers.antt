use native.Mathlib.Nat.{le_trans}
use Rattle.layout.proofs.Laws.{count_is}
use Rattle.ready.proofs.Piles.{piling, ends-inside, entries-room, heights_few, listed_ready}
use Rattle.ready.proofs.tabled.Goals as goal

pub lists-requires : goal.lists-requires
lists-requires c =
    let p = c.args.placed.now in
    let q = piling p.reads p.noted c.requires.lists_room in
    record {
      n_bound = (p.reads.shape.few_reads, p.noted.room, q.room);
      by_index = ends-inside _ _ _ _ q;
      by_index_2 = heights_few _ _ _ _ q c.args.t c.requires.thin_columns;
    }

pub invariant_of-listed : goal.invariant_of-listed
invariant_of-listed c =
    record { ready = listed_ready c.args.placed.now c.args.lists.now c.requires.lists_room c.args.t c.requires.thin_columns c.lists.new.lists c.lists.auto.lists c.lists.ensures }

pub fill_table-requires : goal.fill_table-requires
fill_table-requires c =
    let r = c.args.placed.now.reads in
    let h = c.requires.thin_columns in
    record { t_value = h.entries_are; t_in_bounds = (le_trans (entries-room _ _ _ (count_is r.shape r.bytes.now) h) c.requires.n_in_bounds.0, c.requires.n_in_bounds.1) }

pub returns : goal.returns
returns c =
    record {
      ready = listed_ready c.args.placed.now c.args.lists.now c.requires.lists_room c.args.t c.requires.thin_columns c.lists.new.lists c.lists.auto.lists c.lists.ensures;
      work_after = c.fill_table.ensures;
    }
