-- `teaching_hand_out::heading` meets its contract: it is the fixed table's.
use mathlib.Core.Path.{◌∙◌}
use Rattle.ground_refusal.proofs.Exits.{passed_on}
use Rattle.teaching_hand_out.proofs.Telling.{heading_begun}
use Rattle.teaching_hand_out.proofs.heading.Goals as goal

pub returns-in_err-t : goal.returns-in_err-t
returns-in_err-t c = passed_on c.from_residual.ensures ∙ c.in_err-t.ensures.heading

pub returns : goal.returns
returns c = heading_begun _ _ _ _ _ c.in_ok-t.ensures
