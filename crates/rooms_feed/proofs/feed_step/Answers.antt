-- `rooms_feed::feed_step` meets its contract: 19, then 12, and then the network's own part is fed.
use Rattle.ground_choices.proofs.Tests.{unmet, met}
use Rattle.rooms_state.specs.State.{network1, network2, mine, theirs, with_mine}
use Rattle.rooms_state.proofs.Facts.{first_network, second_network, no_network}
use Rattle.rooms_feed.proofs.Steps.{parts_possible, fed_nowhere, fed_impossible, fed_part}
use Rattle.rooms_feed.proofs.feed_step.Goals as goal

pub returns-then-not-is_network : goal.returns-then-not-is_network
unfolding mine theirs with_mine
returns-then-not-is_network c = fed_nowhere _ _ _ _ (no_network _ (unmet _ c.is_network.ensures c.if-not-is_network.true-raw))

pub returns-then-not-possible : goal.returns-then-not-possible
unfolding mine theirs with_mine
returns-then-not-possible c = fed_impossible _ _ _ _ (met _ c.is_network.ensures c.if-not-is_network.false-raw) (unmet _ c.possible.ensures c.if-not-possible.true-raw)

pub feed_part-fed-requires : goal.feed_part-fed-requires
unfolding mine theirs with_mine
feed_part-fed-requires c = let ok = met _ c.possible.ensures c.if-not-possible.false-raw in
    let parts = parts_possible network1 _ _ _ c.rooms_in-n.ensures.0 ok in
    (c.rooms_in-n.ensures.1, parts.0, parts.1)

pub feed_part-fed-requires-else-network-eq1 : goal.feed_part-fed-requires-else-network-eq1
unfolding mine theirs with_mine
feed_part-fed-requires-else-network-eq1 c = let ok = met _ c.possible.ensures c.if-not-possible.false-raw in
    let parts = parts_possible network2 _ _ _ c.rooms_in-n.ensures.0 ok in
    (c.rooms_in-n.ensures.1, parts.0, parts.1)

pub returns-then-network-eq1 : goal.returns-then-network-eq1
unfolding mine theirs with_mine
returns-then-network-eq1 c = let ok = met _ c.possible.ensures c.if-not-possible.false-raw in
    let first = first_network _ c.if-network-eq1.true in
    fed_part _ _ _ _ network1 first ok _ c.rooms_in-n.ensures.0 _ c.feed_part-fed.ensures.0 _ c.feed_part-fed.ensures.1

pub returns-else-network-eq1 : goal.returns-else-network-eq1
unfolding mine theirs with_mine
returns-else-network-eq1 c = let ok = met _ c.possible.ensures c.if-not-possible.false-raw in
    let second = second_network _ c.if-network-eq1.false (met _ c.is_network.ensures c.if-not-is_network.false-raw) in
    fed_part _ _ _ _ network2 second ok _ c.rooms_in-n.ensures.0 _ c.feed_part-fed-else-network-eq1.ensures.0 _ c.feed_part-fed-else-network-eq1.ensures.1
