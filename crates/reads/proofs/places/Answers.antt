use Rattle.std.proofs.Common.{◌+◌, ◌<◌, length, refl, ap₂, rules, arith}
use Rattle.layout.specs.Places.{read_start}
use Rattle.reads.proofs.PlacesNoted.{upto_none, upto_more}
use Rattle.reads.proofs.places.Goals as goal

pub loop-r-init : goal.loop-r-init
unfolding read_start
loop-r-init c = (refl, search rules, upto_none _ _ _)

pub read_at-read-requires : goal.read_at-read-requires
read_at-read-requires c = let l = c.loop-r in (l.r, (c.loop-r-test.true, l.invariant.0, l.invariant.1))

pub overflow_cast-places : goal.overflow_cast-places
overflow_cast-places c =
    let l = c.loop-r in
    omega (arith, c.read_at-read.ensures l.r (c.loop-r-test.true, l.invariant.0, l.invariant.1))

pub loop-r-preserved : goal.loop-r-preserved
loop-r-preserved c =
    let l = c.loop-r in
    let h = c.read_at-read.ensures l.r (c.loop-r-test.true, l.invariant.0, l.invariant.1) in
    let room : l.r < length l.places = omega arith in (
      h.next_is,
      h.early,
      upto_more l.places l.r _ room _ _ l.invariant.2 h.start_is h.first_is (ap₂ ◌+◌ h.first_is h.count_is),
    )
