-- `configuration_writer::measuring::pen_date` meets its contract: past its numbers, the day that they say is judged.
use mathlib.Core.Path.{sym, ap, ◌∙◌}
use Rattle.ground_refusal.specs.declared.Refusal.TheVariants.{ImpossibleDay}
use Rattle.ground_refusal.proofs.Exits.{passed_on}
use Rattle.body_formats.specs.Reading.{unless}
use Rattle.body_pen.proofs.Leaves.{stopped}
use Rattle.configuration.specs.Configuration.{date}
use Rattle.configuration.proofs.Clocks.{day_fault_lem}
use Rattle.configuration_writer.proofs.Judged.{date_fault, first_stopped, second_stopped, third_stopped, three_fine, three_faulty}
use Rattle.configuration_writer.proofs.measuring.pen_date.Goals as goal

pub returns-in_err-size : goal.returns-in_err-size
unfolding date
returns-in_err-size c pool = passed_on c.from_residual.ensures ∙ stopped _ pool _ _ _ c.in_err-size.was

pub returns-in_err-a : goal.returns-in_err-a
unfolding date
returns-in_err-a c pool = passed_on c.from_residual-in_err-a.ensures ∙ first_stopped date_fault _ _ _ pool _ _ _ (sym c.in_err-a.was ∙ c.pen_count.ensures pool)

pub returns-in_err-b : goal.returns-in_err-b
unfolding date
returns-in_err-b c pool = passed_on c.from_residual-in_err-b.ensures
    ∙ second_stopped date_fault _ _ _ pool _ _ _ _ (sym c.in_ok-a.was ∙ c.pen_count.ensures pool) _ (sym c.in_err-b.was ∙ c.pen_count-2.ensures pool)

pub returns-in_err-c : goal.returns-in_err-c
unfolding date
returns-in_err-c c pool = passed_on c.from_residual-in_err-c.ensures
    ∙ third_stopped date_fault _ _ _ pool _ _ _ _ (sym c.in_ok-a.was ∙ c.pen_count.ensures pool) _ _ (sym c.in_ok-b.was ∙ c.pen_count-2.ensures pool) _
    (sym c.in_err-c.was ∙ c.pen_count-3.ensures pool)

pub returns-then-is_day : goal.returns-then-is_day
unfolding date
returns-then-is_day c pool = three_fine date_fault _ _ _ pool _ _ _ _ (sym c.in_ok-a.was ∙ c.pen_count.ensures pool) _ _ (sym c.in_ok-b.was ∙ c.pen_count-2.ensures pool) _ _ (sym c.in_ok-c.was ∙ c.pen_count-3.ensures pool)
    (λ at. day_fault_lem _ _ _ at ∙ ap (λ b. unless b (ImpossibleDay at)) (sym c.is_day.ensures ∙ c.if-is_day.true))

pub returns : goal.returns
unfolding date
returns c pool = three_faulty date_fault _ _ _ pool _ _ _ _ (sym c.in_ok-a.was ∙ c.pen_count.ensures pool) _ _ (sym c.in_ok-b.was ∙ c.pen_count-2.ensures pool) _ _ (sym c.in_ok-c.was ∙ c.pen_count-3.ensures pool) ImpossibleDay
    (λ at. day_fault_lem _ _ _ at ∙ ap (λ b. unless b (ImpossibleDay at)) (sym c.is_day.ensures ∙ c.if-is_day.false)) _ _ c.in_ok-size.was
