-- `configuration_fields::clock_date` meets its contract: whether the three are a day says whether they are answered.
use mathlib.Core.Path.{sym, ◌∙◌}
use Rattle.ground_refusal.proofs.Exits.{passed_on}
use Rattle.configuration_fields.proofs.Answers.{date_no, date_bad, date_impossible, date_is}
use Rattle.configuration_fields.proofs.clock_date.Goals as goal

pub returns-then-is_day : goal.returns-then-is_day
returns-then-is_day c = date_is _ _ _ _ (sym c.in_ok-q.was ∙ c.content.ensures)
    _ _ _ _ (sym c.in_ok-year.was ∙ c.read_three.ensures) (sym c.is_day.ensures ∙ c.if-is_day.true)

pub returns-in_err-q : goal.returns-in_err-q
returns-in_err-q c = passed_on c.from_residual.ensures ∙ date_no _ _ _ (sym c.in_err-q.was ∙ c.content.ensures)

pub returns-in_err-year : goal.returns-in_err-year
returns-in_err-year c = passed_on c.from_residual-in_err-year.ensures ∙ date_bad _ _ _ _ (sym c.in_ok-q.was ∙ c.content.ensures)
    _ (sym c.in_err-year.was ∙ c.read_three.ensures)

pub returns : goal.returns
returns c = date_impossible _ _ _ _ (sym c.in_ok-q.was ∙ c.content.ensures)
    _ _ _ _ (sym c.in_ok-year.was ∙ c.read_three.ensures) (sym c.is_day.ensures ∙ c.if-is_day.false)
