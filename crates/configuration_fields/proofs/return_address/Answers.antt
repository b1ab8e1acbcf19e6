-- `configuration_fields::return_address` meets its contract: it is asked for in the content.
use mathlib.Core.Path.{sym, ◌∙◌}
use Rattle.ground_refusal.proofs.Exits.{passed_on}
use Rattle.configuration_fields.proofs.Answers.{return_no, return_is}
use Rattle.configuration_fields.proofs.return_address.Goals as goal

pub returns-in_err-q : goal.returns-in_err-q
returns-in_err-q c = passed_on c.from_residual.ensures ∙ return_no _ _ _ (sym c.in_err-q.was ∙ c.content.ensures)

pub returns : goal.returns
returns c = c.address_in.ensures ∙ return_is _ _ _ _ (sym c.in_ok-q.was ∙ c.content.ensures)
