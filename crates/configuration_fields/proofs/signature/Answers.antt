-- `configuration_fields::signature` meets its contract: it follows the commands.
use mathlib.Core.Path.{sym, ◌∙◌}
use Rattle.ground_refusal.proofs.Exits.{passed_on}
use Rattle.configuration_fields.proofs.Answers.{signature_no, signature_past, signature_is}
use Rattle.configuration_fields.proofs.signature.Goals as goal

pub returns-in_err-n : goal.returns-in_err-n
returns-in_err-n c = passed_on c.from_residual.ensures ∙ signature_no _ _ (sym c.in_err-n.was ∙ c.command_count.ensures)

pub returns-in_err-end : goal.returns-in_err-end
returns-in_err-end c = passed_on c.from_residual-in_err-end.ensures ∙ signature_past _ _ _ (sym c.in_ok-n.was ∙ c.command_count.ensures) _
    (sym c.in_err-end.was ∙ c.skip_entries.ensures)

pub returns : goal.returns
returns c = c.read_part.ensures ∙ signature_is _ _ _ (sym c.in_ok-n.was ∙ c.command_count.ensures) _
    (sym c.in_ok-end.was ∙ c.skip_entries.ensures)
