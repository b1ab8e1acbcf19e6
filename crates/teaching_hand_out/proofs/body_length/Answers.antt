-- `teaching_hand_out::body_length` meets its contract: after k turns it is the length of the contents of the numbers below k.
use native.Mathlib.Omega.{arith}
use Rattle.teaching_hand_out.proofs.Joining.{length_turn, order_none}
use Rattle.teaching_hand_out.proofs.body_length.Goals as goal

pub loop-k-init : goal.loop-k-init
loop-k-init c = (omega arith, order_none _)

pub loop-k-preserved : goal.loop-k-preserved
loop-k-preserved c = let part = c.contents_of.ensures in (omega (arith, part.1), length_turn _ _ _ part.0 c.loop-k.n c.loop-k.invariant.1)
