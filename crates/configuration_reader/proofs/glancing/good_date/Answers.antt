-- `configuration_reader::glancing::good_date` meets its contract: its three numbers are a day.
use mathlib.Core.Path.{sym, ◌∙◌}
use Rattle.configuration_reader.proofs.Glances.{date_good}
use Rattle.configuration_reader.proofs.glancing.good_date.Goals as goal

pub returns : goal.returns
returns c e = date_good c.two_bytes-year.ensures.0 c.wide.ensures.0 c.wide-2.ensures.0 (sym c.is_day.ensures ∙ e)
