-- `configuration_reader::glancing::good_tune` meets its contract: its mapping is one of six, and the terminals after it fill the content.
use native.Mathlib.Omega.{arith}
use Rattle.configuration_reader.proofs.Glances.{tune_good}
use Rattle.configuration_reader.proofs.glancing.good_tune.Goals as goal

pub returns : goal.returns
returns c e = tune_good (omega arith) (λ i. (c.type_inv.s i).fits) (omega arith) (c.good_terminals.ensures e)
