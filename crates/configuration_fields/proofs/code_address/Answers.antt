-- `configuration_fields::code_address` meets its contract: it begins the content.
use mathlib.Core.Path.{sym, ◌∙◌}
use Rattle.ground_refusal.proofs.Exits.{passed_on}
use Rattle.configuration_fields.proofs.Answers.{code_address_no, code_address_is}
use Rattle.configuration_fields.proofs.code_address.Goals as goal

pub returns-in_err-q : goal.returns-in_err-q
returns-in_err-q c = passed_on c.from_residual.ensures ∙ code_address_no _ _ _ (sym c.in_err-q.was ∙ c.content.ensures)

pub returns : goal.returns
returns c = c.read_part.ensures ∙ code_address_is _ _ _ _ (sym c.in_ok-q.was ∙ c.content.ensures)
