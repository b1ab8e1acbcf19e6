-- `teaching_questions::hear` meets its contract: what is heard is as it was read.
use mathlib.Core.Path.{sym, ◌∙◌}
use Rattle.teaching_questions.proofs.Saying.{read_nothing, read_good, say_old, say_good}
use Rattle.teaching_questions.proofs.hear.Goals as goal

pub returns-in_err-h : goal.returns-in_err-h
returns-in_err-h c = c.from_residual.ensures ∙ read_nothing _ _ c.read_section.ensures (sym c.in_err-h.was ∙ c.ok.ensures.value)

pub returns-then-h : goal.returns-then-h
returns-then-h c = say_good _ _ _ (read_good _ _ c.read_section.ensures _ (sym c.in_ok-h.was ∙ c.ok.ensures.value)) c.if-h.true

pub returns-else-h : goal.returns-else-h
returns-else-h c = say_old _ _ _ (read_good _ _ c.read_section.ensures _ (sym c.in_ok-h.was ∙ c.ok.ensures.value)) c.if-h.false
