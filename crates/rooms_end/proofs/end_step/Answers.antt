-- `rooms_end::end_step` meets its contract: 19, then 12, and then the network's part is a fresh one.
use Rattle.ground_choices.proofs.Tests.{unmet, met}
use Rattle.rooms_state.specs.State.{network1, network2, with_mine}
use Rattle.rooms_state.proofs.Facts.{first_network, second_network, no_network}
use Rattle.rooms_end.proofs.Ending.{ends_nowhere, ends_impossible, ends}
use Rattle.rooms_end.proofs.end_step.Goals as goal

pub returns-then-not-is_network : goal.returns-then-not-is_network
returns-then-not-is_network c = ends_nowhere _ _ _ (no_network _ (unmet _ c.is_network.ensures c.if-not-is_network.true-raw))

pub returns-then-not-possible : goal.returns-then-not-possible
returns-then-not-possible c = ends_impossible _ _ _ (met _ c.is_network.ensures c.if-not-is_network.false-raw) (unmet _ c.possible.ensures c.if-not-possible.true-raw)

pub returns-then-network-eq1 : goal.returns-then-network-eq1
unfolding with_mine
returns-then-network-eq1 c = let ok = met _ c.possible.ensures c.if-not-possible.false-raw in
    ends _ _ _ network1 (first_network _ c.if-network-eq1.true) ok _ c.fresh_part-part.ensures

pub returns-else-network-eq1 : goal.returns-else-network-eq1
unfolding with_mine
returns-else-network-eq1 c = let ok = met _ c.possible.ensures c.if-not-possible.false-raw in
    let second = second_network _ c.if-network-eq1.false (met _ c.is_network.ensures c.if-not-is_network.false-raw) in
    ends _ _ _ network2 second ok _ c.fresh_part-part.ensures
