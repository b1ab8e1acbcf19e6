-- `content_fields::agency` meets its contract: it follows the text.
use mathlib.Core.Path.{sym, ◌∙◌}
use Rattle.ground_refusal.proofs.Exits.{passed_on}
use Rattle.content_fields.proofs.Answers.{agency_no, after_text, agency_is}
use native.Mathlib.Omega.{arith}
use Rattle.content_fields.proofs.agency.Goals as goal

pub overflow_add-at : goal.overflow_add-at
overflow_add-at c = omega (arith, after_text _ _ _ _ _ (sym c.in_ok-a.was ∙ c.text.ensures))

pub overflow_add-a : goal.overflow_add-a
overflow_add-a c = omega (arith, after_text _ _ _ _ _ (sym c.in_ok-a.was ∙ c.text.ensures))

pub returns-in_err-a : goal.returns-in_err-a
returns-in_err-a c = passed_on c.from_residual.ensures ∙ agency_no _ _ _ _ (sym c.in_err-a.was ∙ c.text.ensures)

pub returns : goal.returns
returns c = c.read_part.ensures ∙ agency_is _ _ _ _ _ (sym c.in_ok-a.was ∙ c.text.ensures)
