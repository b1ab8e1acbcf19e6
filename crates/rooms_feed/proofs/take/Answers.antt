-- `rooms_feed::take` meets its contract: the room lies in the store.
use Rattle.std.proofs.Common.{arith}
use Rattle.rooms_feed.proofs.take.Goals as goal

pub put_payload-n-requires : goal.put_payload-n-requires
put_payload-n-requires c =
    let f = c.requires.0 in
    let e = c.room_place.ensures in
    let w = f.within in
    (f.long, f.short, omega arith)
