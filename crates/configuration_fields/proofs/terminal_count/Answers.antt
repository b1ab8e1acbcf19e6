-- `configuration_fields::terminal_count` meets its contract: it begins the list.
use mathlib.Core.Path.{sym, ◌∙◌}
use Rattle.ground_refusal.proofs.Exits.{passed_on}
use Rattle.configuration_fields.proofs.Answers.{terminal_count_no, terminal_count_is}
use Rattle.configuration_fields.proofs.terminal_count.Goals as goal

pub returns-in_err-q : goal.returns-in_err-q
returns-in_err-q c = passed_on c.from_residual.ensures ∙ terminal_count_no _ _ _ (sym c.in_err-q.was ∙ c.list_begin.ensures)

pub returns : goal.returns
returns c = c.read_number.ensures ∙ terminal_count_is _ _ _ _ (sym c.in_ok-q.was ∙ c.list_begin.ensures)
