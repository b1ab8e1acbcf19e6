-- `index_fields::class` meets its contract: it is the high half of the byte.
use mathlib.Core.Path.{sym, ◌∙◌}
use Rattle.ground_refusal.proofs.Exits.{passed_on}
use Rattle.index_fields.proofs.Answers.{class_no, class_is}
use Rattle.index_fields.proofs.class.Goals as goal

pub returns-in_err-b : goal.returns-in_err-b
returns-in_err-b c = passed_on c.from_residual.ensures ∙ class_no _ _ _ _ (sym c.in_err-b.was ∙ c.class_and_level.ensures)

pub returns : goal.returns
returns c = class_is _ _ _ _ _ (sym c.in_ok-b.was ∙ c.class_and_level.ensures)
