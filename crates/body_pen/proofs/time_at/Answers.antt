-- `body_pen::time_at` meets its contract: an entry that is not a time is refused as its judge says.
use mathlib.Core.Path.{sym, ap, ◌∙◌}
use Rattle.ground_refusal.proofs.Exits.{passed_on}
use Rattle.body_formats.specs.Time.{time_fault, time}
use Rattle.body_pen.proofs.Times.{start_fault, start_large, timed_none, timed_no, timed_is}
use Rattle.body_pen.proofs.time_at.Goals as goal

pub returns-in_err-v : goal.returns-in_err-v
unfolding time
returns-in_err-v c = passed_on c.from_residual.ensures ∙ timed_none start_fault start_large _ _ _ (sym c.in_err-v.was ∙ c.entry_at.ensures)

pub returns-in_err-minute : goal.returns-in_err-minute
unfolding time
returns-in_err-minute c = passed_on c.from_residual-in_err-minute.ensures ∙
    timed_no start_fault start_large _ _ _ _ (sym c.in_ok-v.was ∙ c.entry_at.ensures) _
    (ap time_fault (sym c.read_time.ensures ∙ c.in_err-minute.was))

pub returns : goal.returns
unfolding time
returns c = timed_is start_fault start_large _ _ _ _ (sym c.in_ok-v.was ∙ c.entry_at.ensures)
    (ap time_fault (sym c.read_time.ensures ∙ c.in_ok-minute.was))
