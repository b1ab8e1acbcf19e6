-- `starts::month_starts` meets its contract: the chained test over the constant table holds.
use mathlib.Core.Path.{refl}
use Rattle.time_days.specs.Calendar.{leap, month_length, year_of, month_of, days_of}
use Rattle.time_days.proofs.Table.{equals}
use Rattle.time_days.proofs.starts.month_starts.Goals as goal

pub returns : goal.returns
unfolding leap month_length year_of month_of days_of
returns c = equals _ tt refl
