-- `configuration_fields::parameter_at` meets its contract: it is one of the list.
use mathlib.Core.Path.{sym, ◌∙◌}
use Rattle.ground_refusal.proofs.Exits.{passed_on}
use Rattle.configuration_fields.proofs.Answers.{parameters_no, parameters_is}
use Rattle.configuration_fields.proofs.parameter_at.Goals as goal

pub returns-in_err-q : goal.returns-in_err-q
returns-in_err-q c = passed_on c.from_residual.ensures ∙ parameters_no _ _ _ _ (sym c.in_err-q.was ∙ c.content.ensures)

pub returns : goal.returns
returns c = c.list_at.ensures ∙ parameters_is _ _ _ _ _ (sym c.in_ok-q.was ∙ c.content.ensures)
