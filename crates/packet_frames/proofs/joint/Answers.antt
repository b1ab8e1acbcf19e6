-- `packet_frames::joint` meets its contract: the byte stands in one or in the other.
use native.Mathlib.Omega.{arith}
use Rattle.packet_frames.proofs.Frames.{joint_left, joint_right}
use Rattle.packet_frames.proofs.joint.Goals as goal

pub returns-then-i-u : goal.returns-then-i-u
returns-then-i-u c = joint_left c.args.u.now c.args.more.now c.args.i _ c.byte_at.ensures.1 (omega arith) c.byte_at.ensures.0

pub returns : goal.returns
returns c = joint_right c.args.u.now c.args.more.now c.args.i _ c.byte_at-2.ensures.1 (omega arith) c.byte_at-2.ensures.0
