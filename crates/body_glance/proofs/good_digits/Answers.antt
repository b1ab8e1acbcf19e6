-- `body_glance::good_digits` meets its contract: the first byte has the reserved bits and a digit, and the others have two each.
use mathlib.Core.Path.{sym, ◌∙◌}
use native.Mathlib.Omega.{arith}
use Rattle.body_glance.proofs.Leaves.{not_good, digits_good}
use Rattle.body_glance.proofs.good_digits.Goals as goal

pub returns-then-first-lt240 : goal.returns-then-first-lt240
returns-then-first-lt240 c = not_good

pub returns-then-first-gt249 : goal.returns-then-first-gt249
returns-then-first-gt249 c = not_good

pub returns : goal.returns
returns c e = digits_good _ _ _ (omega arith) (omega arith) (omega arith) (sym c.all_decimal.ensures ∙ e)
