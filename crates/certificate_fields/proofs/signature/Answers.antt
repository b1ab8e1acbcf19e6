-- `certificate_fields::signature` meets its contract: the signature follows both lists.
use mathlib.Core.Path.{sym, ◌∙◌}
use Rattle.ground_refusal.proofs.Exits.{passed_on}
use Rattle.certificate_fields.proofs.Answers.{signature_no, signature_none, signature_is}
use Rattle.certificate_fields.proofs.signature.Goals as goal

pub returns-in_err-a : goal.returns-in_err-a
returns-in_err-a c = passed_on c.from_residual.ensures ∙ signature_no _ _ (sym c.in_err-a.was ∙ c.skip_list.ensures)

pub returns-in_err-b : goal.returns-in_err-b
returns-in_err-b c = passed_on c.from_residual-in_err-b.ensures ∙ signature_none _ _ (sym c.in_ok-a.was ∙ c.skip_list.ensures) _ (sym c.in_err-b.was ∙ c.skip_list-2.ensures)

pub returns : goal.returns
returns c = c.read_part.ensures ∙ signature_is _ _ (sym c.in_ok-a.was ∙ c.skip_list.ensures) _
    (sym c.in_ok-b.was ∙ c.skip_list-2.ensures)
