-- `rooms_hand_out::hand_out` meets its contract: 19, then 12, and then the network's own part is handed out.
use Rattle.ground_choices.proofs.Tests.{unmet, met}
use Rattle.rooms_state.specs.State.{network1, network2, mine}
use Rattle.rooms_state.proofs.Facts.{first_network, second_network, no_network}
use Rattle.rooms_hand_out.proofs.Handing.{hands_nowhere, hands_impossible, hands_part, part_lies}
use Rattle.rooms_hand_out.proofs.hand_out.Goals as goal

pub returns-then-not-is_network : goal.returns-then-not-is_network
unfolding mine
returns-then-not-is_network c = hands_nowhere _ _ _ _ (no_network _ (unmet _ c.is_network.ensures c.if-not-is_network.true-raw))

pub returns-then-not-possible : goal.returns-then-not-possible
unfolding mine
returns-then-not-possible c = hands_impossible _ _ _ _ (met _ c.is_network.ensures c.if-not-is_network.false-raw) (unmet _ c.possible.ensures c.if-not-possible.true-raw)

pub hand_part-requires : goal.hand_part-requires
unfolding mine
hand_part-requires c = part_lies _ _ network1 (met _ c.possible.ensures c.if-not-possible.false-raw)

pub hand_part-requires-else-network-eq1 : goal.hand_part-requires-else-network-eq1
unfolding mine
hand_part-requires-else-network-eq1 c = part_lies _ _ network2 (met _ c.possible.ensures c.if-not-possible.false-raw)

pub returns-then-network-eq1 : goal.returns-then-network-eq1
unfolding mine
returns-then-network-eq1 c = hands_part _ _ _ _ network1 (first_network _ c.if-network-eq1.true) (met _ c.possible.ensures c.if-not-possible.false-raw)
    _ c.hand_part.ensures.0 _ c.hand_part.ensures.1

pub returns-else-network-eq1 : goal.returns-else-network-eq1
unfolding mine
returns-else-network-eq1 c = hands_part _ _ _ _ network2 (second_network _ c.if-network-eq1.false (met _ c.is_network.ensures c.if-not-is_network.false-raw))
    (met _ c.possible.ensures c.if-not-possible.false-raw) _ c.hand_part-else-network-eq1.ensures.0 _ c.hand_part-else-network-eq1.ensures.1
