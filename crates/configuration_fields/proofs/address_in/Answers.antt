-- `configuration_fields::address_in` meets its contract: the kind stands before it and judges it.
use mathlib.Core.Path.{sym, ap, ◌∙◌}
use Rattle.ground_refusal.proofs.Exits.{passed_on}
use Rattle.body_formats.specs.Answers.{number_among}
use Rattle.configuration_fields.proofs.Answers.{among_read, kind_no, kind_is}
use Rattle.configuration_fields.proofs.address_in.Goals as goal

pub returns-in_err-kind : goal.returns-in_err-kind
returns-in_err-kind c = passed_on c.from_residual.ensures ∙ kind_no _ _ _ _ (sym c.in_err-kind.was ∙ c.among.ensures ∙ ap (number_among _ _ _) c.read_number.ensures ∙ among_read _
    (λ i. (c.type_inv.s i).fits) _ _ _ _)

pub returns : goal.returns
returns c = c.judged_address.ensures ∙ kind_is _ _ _ _ _ (sym c.in_ok-kind.was ∙ c.among.ensures ∙ ap (number_among _ _ _)
    c.read_number.ensures ∙ among_read _ (λ i. (c.type_inv.s i).fits) _ _ _ _)
