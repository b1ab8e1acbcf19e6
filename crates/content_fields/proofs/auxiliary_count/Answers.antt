-- `content_fields::auxiliary_count` meets its contract: it follows the agency.
use mathlib.Core.Path.{sym, ◌∙◌}
use Rattle.ground_refusal.proofs.Exits.{passed_on}
use Rattle.content_fields.proofs.Answers.{count_no, after_agency, count_is}
use native.Mathlib.Omega.{arith}
use Rattle.content_fields.proofs.auxiliary_count.Goals as goal

pub overflow_add-at : goal.overflow_add-at
overflow_add-at c = omega (arith, after_agency _ _ _ _ _ (sym c.in_ok-a.was ∙ c.agency.ensures))

pub overflow_add-a : goal.overflow_add-a
overflow_add-a c = omega (arith, after_agency _ _ _ _ _ (sym c.in_ok-a.was ∙ c.agency.ensures))

pub returns-in_err-a : goal.returns-in_err-a
returns-in_err-a c = passed_on c.from_residual.ensures ∙ count_no _ _ _ _ (sym c.in_err-a.was ∙ c.agency.ensures)

pub returns : goal.returns
returns c = c.number_among.ensures ∙ count_is _ _ _ _ _ (sym c.in_ok-a.was ∙ c.agency.ensures)
