-- `certificate_fields::certificate_count` meets its contract: the count follows the first list.
use mathlib.Core.Path.{sym, ◌∙◌}
use Rattle.ground_refusal.proofs.Exits.{passed_on}
use Rattle.certificate_fields.proofs.Answers.{count_no, count_is}
use Rattle.certificate_fields.proofs.certificate_count.Goals as goal

pub returns-in_err-a : goal.returns-in_err-a
returns-in_err-a c = passed_on c.from_residual.ensures ∙ count_no _ _ (sym c.in_err-a.was ∙ c.skip_list.ensures)

pub returns : goal.returns
returns c = c.read_number.ensures ∙ count_is _ _ (sym c.in_ok-a.was ∙ c.skip_list.ensures)
