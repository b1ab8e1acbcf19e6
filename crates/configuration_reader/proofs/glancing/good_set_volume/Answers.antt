-- `configuration_reader::glancing::good_set_volume` meets its contract: its volume is at most 100, and the terminals after it fill the content.
use native.Mathlib.Omega.{arith}
use Rattle.body_glance.proofs.Leaves.{not_good}
use Rattle.configuration_reader.proofs.Glances.{set_volume_good}
use Rattle.configuration_reader.proofs.glancing.good_set_volume.Goals as goal

pub returns-then-l-p-lt2 : goal.returns-then-l-p-lt2
returns-then-l-p-lt2 c = not_good

pub returns-then-s-p-gt100 : goal.returns-then-s-p-gt100
returns-then-s-p-gt100 c = not_good

pub returns : goal.returns
returns c e = set_volume_good (omega arith) (λ i. (c.type_inv.s i).fits) c.if-s-p-gt100.false (c.good_terminals.ensures e)
