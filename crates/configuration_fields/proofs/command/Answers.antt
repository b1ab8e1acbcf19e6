-- `configuration_fields::command` meets its contract: it stands after the commands before it, as many as the count allows.
use mathlib.Core.Path.{sym, ◌∙◌}
use Rattle.ground_refusal.proofs.Exits.{passed_on}
use Rattle.configuration_fields.proofs.Answers.{command_no, command_none, command_at}
use Rattle.configuration_fields.proofs.command.Goals as goal

pub returns-in_err-n : goal.returns-in_err-n
returns-in_err-n c = passed_on c.from_residual.ensures ∙ command_no _ _ _ (sym c.in_err-n.was ∙ c.command_count.ensures)

pub returns-in_err-p : goal.returns-in_err-p
returns-in_err-p c = passed_on c.from_residual-in_err-p.ensures ∙ command_none _ _ _ _ (sym c.in_ok-n.was ∙ c.command_count.ensures)
    c.nth_entry.ensures _ c.in_err-p.was

pub returns : goal.returns
returns c = c.whole.ensures ∙ command_at _ _ _ _ (sym c.in_ok-n.was ∙ c.command_count.ensures)
    c.nth_entry.ensures _ c.in_ok-p.was
