-- `body_parts::skip_list` meets its contract: the list ends where its things do, as many as its count.
use mathlib.Core.Path.{sym, ◌∙◌}
use Rattle.ground_refusal.proofs.Exits.{passed_on}
use Rattle.body_formats.proofs.Readers.{list_no, list_all}
use Rattle.body_parts.proofs.skip_list.Goals as goal

pub returns-in_err-n : goal.returns-in_err-n
returns-in_err-n c = passed_on c.from_residual.ensures ∙ list_no _ _ _ _ _ _ (sym c.in_err-n.was ∙ c.read_number.ensures)

pub returns : goal.returns
returns c = c.skip_parts.ensures ∙ list_all _ _ _ _ _ _ _ (sym c.in_ok-n.was ∙ c.read_number.ensures)
