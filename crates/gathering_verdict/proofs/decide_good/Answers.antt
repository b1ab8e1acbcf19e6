-- `gathering_verdict::decide_good` meets its contract: a payload of the table lies in a store that has room for it.
use Rattle.std.proofs.Common.{arith}
use Rattle.ground_choices.proofs.Tests.{met}
use Rattle.gathering_state.proofs.Lists.{greatest_at}
use Rattle.gathering_state.proofs.State.{place_within}
use Rattle.gathering_verdict.proofs.decide_good.Goals as goal

pub decide_number-requires : goal.decide_number-requires
decide_number-requires c =
    let p = place_within _ _ c.args.h.number (met _ c.has_room.ensures c.if-not-has_room.false-raw) c.requires.0 in
    let n = greatest_at c.args.g.now.held c.args.h.number in
    omega arith
