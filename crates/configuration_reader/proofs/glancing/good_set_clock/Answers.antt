-- `configuration_reader::glancing::good_set_clock` meets its contract: a date and a time of day are all of the content.
use native.Mathlib.Omega.{arith}
use Rattle.body_glance.proofs.Leaves.{not_good}
use Rattle.configuration_reader.proofs.Glances.{set_clock_good}
use Rattle.configuration_reader.proofs.glancing.good_set_clock.Goals as goal

pub returns-then-l-p-ne7 : goal.returns-then-l-p-ne7
returns-then-l-p-ne7 c = not_good

pub returns-then-not-good_date : goal.returns-then-not-good_date
returns-then-not-good_date c = not_good

pub returns : goal.returns
returns c e = set_clock_good (omega arith) (omega arith) (c.good_date.ensures c.if-not-good_date.false) (c.good_clock.ensures e)
