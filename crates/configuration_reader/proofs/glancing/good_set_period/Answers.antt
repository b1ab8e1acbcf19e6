-- `configuration_reader::glancing::good_set_period` meets its contract: the terminals after its period fill the content.
use native.Mathlib.Omega.{arith}
use Rattle.body_glance.proofs.Leaves.{not_good}
use Rattle.configuration_reader.proofs.Glances.{set_period_good}
use Rattle.configuration_reader.proofs.glancing.good_set_period.Goals as goal

pub returns-then-l-p-lt5 : goal.returns-then-l-p-lt5
returns-then-l-p-lt5 c = not_good

pub returns : goal.returns
returns c e = set_period_good (omega arith) (λ i. (c.type_inv.s i).fits) (c.good_terminals.ensures e)
