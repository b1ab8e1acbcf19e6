-- `configuration_reader::glancing::good_set_code` meets its contract: a part, and a resource that ends the content.
use native.Mathlib.Omega.{arith}
use Rattle.body_glance.proofs.Leaves.{not_good}
use Rattle.configuration_reader.proofs.Glances.{set_code_good}
use Rattle.configuration_reader.proofs.glancing.good_set_code.Goals as goal

pub returns-then-l-p-lt13 : goal.returns-then-l-p-lt13
returns-then-l-p-lt13 c = not_good

pub returns-then-l-p : goal.returns-then-l-p
returns-then-l-p c = not_good

pub returns : goal.returns
returns c e = set_code_good (omega arith) (λ i. (c.type_inv.s i).fits) c.wide-n.ensures.0 (omega arith) (c.good_digits.ensures e)
