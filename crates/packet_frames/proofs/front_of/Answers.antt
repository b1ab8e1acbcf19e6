-- `packet_frames::front_of` meets its contract: nothing begins at the end and in stuffing; else the section_length decides.
use mathlib.Core.Path.{◌∙◌}
use native.Mathlib.Omega.{arith}
use Rattle.packet_frames.proofs.Frames.{front_tail}
use Rattle.packet_frames.proofs.front_of.Goals as goal

pub returns : goal.returns
returns c = c.frame_of.ensures ∙ front_tail c.args.d.now (λ e. omega arith) (λ e. omega arith)
