-- `configuration_reader::walking::walk_date` meets its contract: its three numbers are walked, and whether they are a day decides.
use Rattle.time_days.specs.Calendar.{has_day}
use Rattle.configuration.specs.Configuration.{date}
use Rattle.configuration.proofs.Clocks.{day_fault_lem}
use Rattle.configuration_reader.proofs.ClockWalks.{first_stop, second_stop, third_stop, three_walk}
use Rattle.configuration_reader.proofs.walking.walk_date.Goals as goal

pub returns-in_err-a : goal.returns-in_err-a
unfolding date
returns-in_err-a c = first_stop 2 has_day (λ z at. day_fault_lem z.0 z.1.0 z.1.1 at) c.in_err-a.was c.from_residual.ensures c.walk_count.ensures

pub returns-in_err-b : goal.returns-in_err-b
unfolding date
returns-in_err-b c = second_stop 2 has_day (λ z at. day_fault_lem z.0 z.1.0 z.1.1 at) c.in_ok-a.was c.walk_count.ensures
    c.in_err-b.was c.from_residual-in_err-b.ensures c.walk_count-2.ensures

pub returns-in_err-c : goal.returns-in_err-c
unfolding date
returns-in_err-c c = third_stop 2 has_day (λ z at. day_fault_lem z.0 z.1.0 z.1.1 at) c.in_ok-a.was c.walk_count.ensures
    c.in_ok-b.was c.walk_count-2.ensures c.in_err-c.was c.from_residual-in_err-c.ensures c.walk_count-3.ensures

pub returns : goal.returns
unfolding date
returns c = three_walk 2 has_day (λ z at. day_fault_lem z.0 z.1.0 z.1.1 at) c.in_ok-a.was c.walk_count.ensures
    c.in_ok-b.was c.walk_count-2.ensures c.in_ok-c.was c.walk_count-3.ensures c.is_day.ensures c.possible.ensures
