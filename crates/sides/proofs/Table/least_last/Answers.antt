use native.Mathlib.Omega.{arith}
use Rattle.sides.proofs.WayBack.{last_column, some, least_is}
use Rattle.sides.proofs.Table.least_last.Goals as goal

pub least_from-requires-clause-step_value : goal.least_from-requires-clause-step_value
least_from-requires-clause-step_value c =
    let t = c.args.self.now in
    let ready = t.listed.ready in
    (omega arith, rw c.column_entries.ensures (some _ _ _ _ ready _ (last_column _ _ _ _ ready).1 t.work.now (rw (← t.entries_are) t.room)))

pub returns : goal.returns
returns c =
    let t = c.args.self.now in
    let ready = t.listed.ready in
    least_is _ _ _ _ ready _ (last_column _ _ _ _ ready).1 t.work.now (rw (← t.entries_are) t.room) c.least_from.result (rw c.column_entries.ensures at c.least_from.ensures)
