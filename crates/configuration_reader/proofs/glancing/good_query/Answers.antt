-- `configuration_reader::glancing::good_query` meets its contract: the terminals after its parameters fill the content.
use native.Mathlib.Omega.{arith}
use Rattle.body_glance.proofs.Leaves.{not_good}
use Rattle.configuration_reader.proofs.Glances.{query_good}
use Rattle.configuration_reader.proofs.glancing.good_query.Goals as goal

pub returns-then-l-p-lt2 : goal.returns-then-l-p-lt2
returns-then-l-p-lt2 c = not_good

pub returns-then-l-p : goal.returns-then-l-p
returns-then-l-p c = not_good

pub returns : goal.returns
returns c e = query_good (omega arith) (λ i. (c.type_inv.s i).fits) c.wide-n.ensures.0 (c.good_terminals.ensures e)
