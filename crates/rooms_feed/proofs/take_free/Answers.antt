-- `rooms_feed::take_free` meets its contract: the section is taken into the free room that was found, or refused where there is none.
use Rattle.rooms_feed.proofs.Steps.{free_fits, takes_none, takes_free}
use Rattle.rooms_feed.proofs.take_free.Goals as goal

pub returns-then-room-eq0 : goal.returns-then-room-eq0
returns-then-room-eq0 c = takes_none _ _ _ _ _ _ _ _ c.free_room-room.ensures.0 c.if-room-eq0.true

pub take-requires : goal.take-requires
take-requires c = let pre = c.requires in
    (free_fits _ _ _ pre.0 _ c.if-room-eq0.false c.free_room-room.ensures.1, pre.1, pre.2)

pub returns : goal.returns
returns c = takes_free _ _ _ _ _ _ _ _ c.free_room-room.ensures.0 c.if-room-eq0.false _ c.take.ensures.0 _ c.take.ensures.1
