use Rattle.rooms.proofs.Laws.{small_rooms, large_rooms, rooms_of}
use Rattle.rooms.proofs.with_room.Goals as goal

pub lend-requires-clause-callable : goal.lend-requires-clause-callable
lend-requires-clause-callable g c =
    let few = c.few.ensures c.if-few.true in
    λ p l s new. c.requires p l s (rooms_of 7 32 128 new (small_rooms c.args.shape few.0 few.1))

pub returns-then-few : goal.returns-then-few
returns-then-few g c =
    let few = c.few.ensures c.if-few.true in
    let (p, l, s, p', l', s', step, new) = c.lend.ensures in
    (p, l, s, p', l', s', step, rooms_of 7 32 128 new (small_rooms c.args.shape few.0 few.1))

pub lend-requires-2-clause-callable : goal.lend-requires-2-clause-callable
lend-requires-2-clause-callable g c = λ p l s new. c.requires p l s (rooms_of 1024 1024 4096 new (large_rooms c.args.shape))

pub returns : goal.returns
returns g c =
    let (p, l, s, p', l', s', step, new) = c.lend-2.ensures in
    (p, l, s, p', l', s', step, rooms_of 1024 1024 4096 new (large_rooms c.args.shape))
