-- `gathering_hand_out::hand_held` meets its contract: the total is the length of the joined body, and the output has room for it or not.
use Rattle.std.proofs.Common.{arith}
use Rattle.gathering_hand_out.proofs.Handing.{held_small, held_body}
use Rattle.gathering_hand_out.proofs.hand_held.Goals as goal

pub returns-then-out-n : goal.returns-then-out-n
returns-then-out-n g c = held_small _ _ _ _ c.requires.lie _ c.total_of-n.ensures c.if-out-n.true

pub returns : goal.returns
returns g c = held_body _ _ _ _ c.requires.lie _ c.total_of-n.ensures (omega arith) _ c.join.ensures
