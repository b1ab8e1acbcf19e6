-- `configuration_reader::walking::walk_clock` meets its contract: its three numbers are walked, and whether they are a time of day decides.
use mathlib.Core.Path.{refl}
use mathlib.Core.Bool.{◌&&◌}
use lib.Dec.{leb}
use Rattle.configuration.specs.Configuration.{clock}
use Rattle.configuration_reader.proofs.ClockWalks.{first_stop, second_stop, third_stop, three_walk}
use Rattle.configuration_reader.proofs.walking.walk_clock.Goals as goal

pub returns-in_err-a : goal.returns-in_err-a
unfolding clock
returns-in_err-a c = first_stop 1 (λ hour minute c. leb hour 23 && (leb minute 59 && leb c 59)) (λ z at. refl) c.in_err-a.was c.from_residual.ensures c.walk_count.ensures

pub returns-in_err-b : goal.returns-in_err-b
unfolding clock
returns-in_err-b c = second_stop 1 (λ hour minute c. leb hour 23 && (leb minute 59 && leb c 59)) (λ z at. refl) c.in_ok-a.was c.walk_count.ensures
    c.in_err-b.was c.from_residual-in_err-b.ensures c.walk_count-2.ensures

pub returns-in_err-c : goal.returns-in_err-c
unfolding clock
returns-in_err-c c = third_stop 1 (λ hour minute c. leb hour 23 && (leb minute 59 && leb c 59)) (λ z at. refl) c.in_ok-a.was c.walk_count.ensures
    c.in_ok-b.was c.walk_count-2.ensures c.in_err-c.was c.from_residual-in_err-c.ensures c.walk_count-3.ensures

pub returns : goal.returns
unfolding clock
returns c = three_walk 1 (λ hour minute c. leb hour 23 && (leb minute 59 && leb c 59)) (λ z at. refl) c.in_ok-a.was c.walk_count.ensures
    c.in_ok-b.was c.walk_count-2.ensures c.in_ok-c.was c.walk_count-3.ensures c.is_time.ensures c.possible.ensures
