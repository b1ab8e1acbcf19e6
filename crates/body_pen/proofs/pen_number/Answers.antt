-- `body_pen::pen_number` meets its contract: it is the pen past a number that is told.
use mathlib.Core.Path.{sym, ◌∙◌}
use Rattle.ground_refusal.proofs.Exits.{passed_on}
use Rattle.body_pen.proofs.Pairs.{told_pen, untold_pen}
use Rattle.body_pen.proofs.pen_number.Goals as goal

pub returns-in_err-past : goal.returns-in_err-past
returns-in_err-past c pool = passed_on c.from_residual.ensures ∙ untold_pen _ pool _ _ _ (sym c.in_err-past.was ∙ c.pen_told.ensures pool)

pub returns : goal.returns
returns c pool = told_pen _ pool _ _ _ _ (sym c.in_ok-past.was ∙ c.pen_told.ensures pool)
