-- `body_pen::pen_time` meets its contract: the bytes of a time are counted.
use mathlib.Core.Path.{sym, ◌∙◌}
use Rattle.ground_refusal.proofs.Exits.{passed_on}
use Rattle.body_formats.specs.Time.{time}
use Rattle.body_pen.proofs.Leaves.{stopped}
use Rattle.body_pen.proofs.Times.{start_fault, start_large, timed_refused, timed_passed}
use Rattle.body_pen.proofs.pen_time.Goals as goal

pub returns-in_err-size : goal.returns-in_err-size
unfolding time
returns-in_err-size c pool = passed_on c.from_residual.ensures ∙ stopped _ pool _ _ _ c.in_err-size.was

pub returns-in_err-v : goal.returns-in_err-v
unfolding time
returns-in_err-v c pool = passed_on c.from_residual-in_err-v.ensures ∙
    timed_refused start_fault start_large _ _ pool _ _ c.in_ok-size.was _ (sym c.in_err-v.was ∙ c.time_at.ensures)

pub returns : goal.returns
unfolding time
returns c pool = timed_passed start_fault start_large _ _ pool _ _ c.in_ok-size.was _ _ (sym c.in_ok-v.was ∙ c.time_at.ensures) _
    c.grown.ensures
