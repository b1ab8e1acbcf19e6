-- `configuration_reader::glancing::good_clock` meets its contract: its three numbers are a time of day.
use mathlib.Core.Path.{sym, ◌∙◌}
use Rattle.configuration_reader.proofs.Glances.{clock_good}
use Rattle.configuration_reader.proofs.glancing.good_clock.Goals as goal

pub returns : goal.returns
returns c e = clock_good c.wide.ensures.0 c.wide-2.ensures.0 c.wide-3.ensures.0 (sym c.is_time.ensures ∙ e)
