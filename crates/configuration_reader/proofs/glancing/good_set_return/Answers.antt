-- `configuration_reader::glancing::good_set_return` meets its contract: the kind says which address follows it, and the terminals after that fill the content.
use native.Mathlib.Omega.{arith}
use mathlib.Core.Path.{sym, ◌∙◌}
use Rattle.body_glance.proofs.Leaves.{not_good}
use Rattle.configuration_reader.proofs.Glances.{set_return_good}
use Rattle.configuration_reader.proofs.glancing.good_set_return.Goals as goal

pub returns-then-l-p-lt3 : goal.returns-then-l-p-lt3
returns-then-l-p-lt3 c = not_good

pub returns-then-kind-lt1 : goal.returns-then-kind-lt1
returns-then-kind-lt1 c = not_good

pub returns-then-kind-gt3 : goal.returns-then-kind-gt3
returns-then-kind-gt3 c = not_good

pub returns-then-l-p : goal.returns-then-l-p
returns-then-l-p c = not_good

pub returns-then-not-length_fits : goal.returns-then-not-length_fits
returns-then-not-length_fits c = not_good

pub returns-then-not-is_address : goal.returns-then-not-is_address
returns-then-not-is_address c = not_good

pub returns : goal.returns
returns c e = set_return_good (omega arith) (λ i. (c.type_inv.s i).fits) c.wide-kind.ensures.0 c.if-kind-lt1.false
    c.if-kind-gt3.false c.wide-long.ensures.0 (omega arith) (sym c.length_fits.ensures ∙ c.if-not-length_fits.false)
    (sym c.is_address.ensures ∙ c.if-not-is_address.false) (c.good_terminals.ensures e)
