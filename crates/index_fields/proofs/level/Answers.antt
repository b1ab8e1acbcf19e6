-- `index_fields::level` meets its contract: it is the low half of the byte.
use mathlib.Core.Path.{sym, ◌∙◌}
use Rattle.ground_refusal.proofs.Exits.{passed_on}
use Rattle.index_fields.proofs.Answers.{level_no, level_is}
use Rattle.index_fields.proofs.level.Goals as goal

pub returns-in_err-b : goal.returns-in_err-b
returns-in_err-b c = passed_on c.from_residual.ensures ∙ level_no _ _ _ _ (sym c.in_err-b.was ∙ c.class_and_level.ensures)

pub returns : goal.returns
returns c = level_is _ _ _ _ _ (sym c.in_ok-b.was ∙ c.class_and_level.ensures)
