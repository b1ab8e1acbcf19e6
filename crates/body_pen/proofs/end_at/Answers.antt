-- `body_pen::end_at` meets its contract: an entry that is not an end is refused as its judge says.
use mathlib.Core.Path.{sym, ap, ◌∙◌}
use Rattle.ground_refusal.proofs.Exits.{passed_on}
use Rattle.body_formats.specs.Time.{end_fault, end_time}
use Rattle.body_pen.proofs.Times.{stop_fault, stop_large, timed_none, timed_no, timed_is, end_known}
use Rattle.body_pen.proofs.end_at.Goals as goal

pub returns-in_err-v : goal.returns-in_err-v
unfolding end_time
returns-in_err-v c = passed_on c.from_residual.ensures ∙ timed_none stop_fault stop_large _ _ _ (sym c.in_err-v.was ∙ c.entry_at.ensures)

pub returns-in_err-minute : goal.returns-in_err-minute
unfolding end_time
returns-in_err-minute c = passed_on c.from_residual-in_err-minute.ensures ∙
    timed_no stop_fault stop_large _ _ _ _ (sym c.in_ok-v.was ∙ c.entry_at.ensures) _
    (ap end_fault (sym c.read_end.ensures ∙ c.in_err-minute.was))

pub returns : goal.returns
unfolding end_time
returns c = timed_is stop_fault stop_large _ _ _ _ (sym c.in_ok-v.was ∙ c.entry_at.ensures)
    (ap end_fault (sym c.read_end.ensures ∙ c.in_ok-minute.was) ∙ end_known _)
