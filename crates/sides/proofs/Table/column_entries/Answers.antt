use native.Mathlib.Omega.{arith}
use Rattle.sides.proofs.WayBack.{cut}
use Rattle.sides.proofs.Table.column_entries.Goals as goal

pub overflow_add-to : goal.overflow_add-to
overflow_add-to c =
    let t = c.args.self.now in
    omega (arith, cut _ _ _ _ t.listed.ready c.args.j c.requires c.active_reads-p.ensures t.entries_are c.entries.ensures t.work.now)

pub slice_bounds-result-end : goal.slice_bounds-result-end
slice_bounds-result-end c =
    let t = c.args.self.now in
    omega (arith, t.room, cut _ _ _ _ t.listed.ready c.args.j c.requires c.active_reads-p.ensures t.entries_are c.entries.ensures t.work.now)

pub returns : goal.returns
returns c =
    let t = c.args.self.now in
    (cut _ _ _ _ t.listed.ready c.args.j c.requires c.active_reads-p.ensures t.entries_are c.entries.ensures t.work.now).whole
