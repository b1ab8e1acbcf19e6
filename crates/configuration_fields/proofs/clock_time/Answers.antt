-- `configuration_fields::clock_time` meets its contract: the test of the three says whether they are answered.
use mathlib.Core.Path.{sym, ◌∙◌}
use Rattle.ground_refusal.proofs.Exits.{passed_on}
use Rattle.configuration_fields.proofs.Answers.{inside, clock_no, clock_bad, clock_impossible, clock_is}
use native.Mathlib.Omega.{arith}
use Rattle.configuration_fields.proofs.clock_time.Goals as goal

pub overflow_add-q : goal.overflow_add-q
overflow_add-q c = omega (arith, inside _ _ _ _ _ (sym c.in_ok-q.was ∙ c.content.ensures))

pub returns-then-is_time : goal.returns-then-is_time
returns-then-is_time c = clock_is _ _ _ _ (sym c.in_ok-q.was ∙ c.content.ensures) _ _ _ _ (sym c.in_ok-hour.was ∙ c.read_three.ensures)
    (sym c.is_time.ensures ∙ c.if-is_time.true)

pub overflow_add-result : goal.overflow_add-result
overflow_add-result c = omega (arith, inside _ _ _ _ _ (sym c.in_ok-q.was ∙ c.content.ensures))

pub returns-in_err-q : goal.returns-in_err-q
returns-in_err-q c = passed_on c.from_residual.ensures ∙ clock_no _ _ _ (sym c.in_err-q.was ∙ c.content.ensures)

pub returns-in_err-hour : goal.returns-in_err-hour
returns-in_err-hour c = passed_on c.from_residual-in_err-hour.ensures ∙ clock_bad _ _ _ _ (sym c.in_ok-q.was ∙ c.content.ensures) _ (sym c.in_err-hour.was ∙ c.read_three.ensures)

pub returns : goal.returns
returns c = clock_impossible _ _ _ _ (sym c.in_ok-q.was ∙ c.content.ensures) _ _ _ _
    (sym c.in_ok-hour.was ∙ c.read_three.ensures) (sym c.is_time.ensures ∙ c.if-is_time.false)
