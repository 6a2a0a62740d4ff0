use Rattle.std.proofs.Common.{rules, length, ◌-◌, subst}
use Rattle.std.specs.Io.KnownBytes.{Consumes}
use Rattle.std.proofs.KnownBytes.{Consumes-trans}
use Rattle.files.proofs.Parts.{joined}
use Rattle.files.proofs.read_all.Goals as goal

pub loop-done-preserved : goal.loop-done-preserved
loop-done-preserved g c =
    let from = c.loop-done.done in
    let room = length c.loop-done.room - from in
    let whole = joined from room c.in_ok-more.more c.loop-done.room c.read.new.buf c.loop-done.invariant.1 c.in_ok-more.ensures.bound.0 in
    (search rules, search rules, subst (Consumes _ _) whole (Consumes-trans _ _ _ _ _ c.loop-done.invariant.2 c.in_ok-more.ensures.bytes.0))
