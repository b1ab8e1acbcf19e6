-- `rooms_verdict::decide_good` meets its contract: each held payload lies in its room.
use Rattle.std.proofs.Common.{arith}
use Rattle.rooms_state.specs.State.{room_at}
use Rattle.rooms_verdict.proofs.decide_good.Goals as goal

pub decide_number-requires : goal.decide_number-requires
unfolding room_at
decide_number-requires c =
    let w = c.requires.1.within c.args.h.number in
    let e = c.room_place-at.ensures in
    omega arith
