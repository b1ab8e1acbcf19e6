-- `teaching_hand_out::missing` meets its contract: both numbers are those of the fixed table.
use mathlib.Core.Path.{◌∙◌}
use Rattle.ground_refusal.proofs.Exits.{passed_on}
use Rattle.teaching_hand_out.proofs.Telling.{lacking_begun}
use Rattle.teaching_hand_out.proofs.missing.Goals as goal

pub returns-in_err-t : goal.returns-in_err-t
returns-in_err-t c = passed_on c.from_residual.ensures ∙ c.in_err-t.ensures.lacking

pub returns : goal.returns
returns c = lacking_begun _ _ _ _ _ c.in_ok-t.ensures _ c.missing_of.ensures
