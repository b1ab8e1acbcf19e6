-- `configuration_reader::glancing::good_terminals` meets its contract: the count says how many resources fill the content, and they are good.
use native.Mathlib.Omega.{arith}
use Rattle.body_glance.proofs.Leaves.{not_good}
use Rattle.configuration_reader.proofs.Glances.{terminals_good}
use Rattle.configuration_reader.proofs.glancing.good_terminals.Goals as goal

pub returns-then-l-p : goal.returns-then-l-p
returns-then-l-p c = not_good

pub returns : goal.returns
returns c e = terminals_good c.wide-n.ensures.0 (omega arith) (c.good_resources.ensures e)
