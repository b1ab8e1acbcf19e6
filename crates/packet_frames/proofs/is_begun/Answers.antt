-- `packet_frames::is_begun` meets its contract: what stands at the front is open.
use mathlib.Core.Path.{sym, ◌∙◌}
use native.Mathlib.Omega.{arith}
use Rattle.packet_frames.specs.declared.Frame.TheVariants.{Open}
use Rattle.packet_frames.proofs.Frames.{none_begun, front_begun, not_begun}
use Rattle.packet_frames.proofs.is_begun.Goals as goal

pub returns-then-u-eq0 : goal.returns-then-u-eq0
returns-then-u-eq0 c = none_begun _ (omega arith)

pub returns-in-Open : goal.returns-in-Open
returns-in-Open c = front_begun _ Open (λ e. omega arith) (sym c.in-Open.is ∙ c.front_of.ensures)

pub returns-in_default : goal.returns-in_default
returns-in_default c = not_begun _ _ (λ e. omega arith) c.front_of.ensures c.in_default.not-Open
