-- `configuration_fields::parameter` meets its contract: it stands at its place, and is not refused for its value.
use mathlib.Core.Path.{sym, ◌∙◌}
use Rattle.ground_refusal.proofs.Exits.{passed_on}
use Rattle.configuration_fields.proofs.Answers.{parameter_no, parameter_is}
use Rattle.configuration_fields.proofs.parameter.Goals as goal

pub returns-in_err-q : goal.returns-in_err-q
returns-in_err-q c = passed_on c.from_residual.ensures ∙ parameter_no _ _ _ _ (sym c.in_err-q.was ∙ c.parameter_at.ensures)

pub returns : goal.returns
returns c = c.read_number.ensures ∙ parameter_is _ _ _ (λ i. (c.type_inv.s i).fits) _ _
    (sym c.in_ok-q.was ∙ c.parameter_at.ensures)
