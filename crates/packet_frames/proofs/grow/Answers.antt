-- `packet_frames::grow` meets its contract: nothing unfinished grows into nothing; else the section_length decides.
use native.Mathlib.Omega.{arith}
use Rattle.packet_frames.proofs.Growing.{grown_none, grown_frame}
use Rattle.packet_frames.proofs.grow.Goals as goal

pub returns-then-u-eq0 : goal.returns-then-u-eq0
returns-then-u-eq0 c = grown_none _ _ (omega arith)

pub returns : goal.returns
returns c = grown_frame c.args.u.now c.args.more.now _ (λ e. omega arith) c.requires.0 c.frame_of.ensures
