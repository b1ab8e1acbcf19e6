-- `certificate_fields::certificate` meets its contract: the certificates follow the first list.
use mathlib.Core.Path.{sym, ◌∙◌}
use Rattle.ground_refusal.proofs.Exits.{passed_on}
use Rattle.certificate_fields.proofs.Answers.{part_no, part_is}
use Rattle.certificate_fields.proofs.certificate.Goals as goal

pub returns-in_err-a : goal.returns-in_err-a
returns-in_err-a c = passed_on c.from_residual.ensures ∙ part_no _ _ (sym c.in_err-a.was ∙ c.skip_list.ensures) _

pub returns : goal.returns
returns c = c.listed_part.ensures ∙ part_is _ _ (sym c.in_ok-a.was ∙ c.skip_list.ensures) _
