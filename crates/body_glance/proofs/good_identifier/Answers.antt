-- `body_glance::good_identifier` meets its contract: its digits are decimal, and then their day decides.
use mathlib.Core.Path.{sym, ◌∙◌}
use Rattle.body_glance.proofs.Leaves.{not_good, identifier_decimal, identifier_good}
use Rattle.body_glance.proofs.good_identifier.Goals as goal

pub returns-then-not-good_digits : goal.returns-then-not-good_digits
returns-then-not-good_digits c = not_good

pub has_decimal_day-requires : goal.has_decimal_day-requires
has_decimal_day-requires c = (c.requires, identifier_decimal _ _ c.requires (c.good_digits.ensures c.if-not-good_digits.false))

pub returns : goal.returns
returns c e = identifier_good _ _ c.requires (c.good_digits.ensures c.if-not-good_digits.false) (sym c.has_decimal_day.ensures ∙ e)
