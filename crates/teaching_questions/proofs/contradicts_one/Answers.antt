-- `teaching_questions::contradicts_one` meets its contract: a section of the table is held against them.
use mathlib.Core.Path.{◌∙◌}
use Rattle.teaching_questions.proofs.Undisputed.{clash_none, clash_one}
use Rattle.teaching_questions.proofs.contradicts_one.Goals as goal

pub returns-in_default : goal.returns-in_default
returns-in_default c = clash_none _ _ _ c.in_default.ensures

pub returns : goal.returns
returns c = c.differs_from_one.ensures ∙ clash_one _ _ _ _ c.in-Some.ensures
