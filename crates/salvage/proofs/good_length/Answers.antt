-- `salvage::good_length` meets its contract: a section that begins the bytes is as long as it states, and only so many are judged.
use mathlib.Core.Path.{sym, ◌∙◌}
use Rattle.salvage.proofs.Begins.{none_said, none_past, length_none, length_as_judged}
use Rattle.salvage.proofs.good_length.Goals as goal

pub returns-in-Ok : goal.returns-in-Ok
returns-in-Ok c = (length_as_judged _ _ c.if-length-s.true (sym c.stated_length.ensures ∙ c.in-Ok.is) _ c.is_good.ensures).0 c.if-is_good.true

pub returns-in_default : goal.returns-in_default
returns-in_default c = (length_as_judged _ _ c.if-length-s.true (sym c.stated_length.ensures ∙ c.in-Ok.is) _ c.is_good.ensures).1 c.if-is_good.false

pub returns-in_default-2 : goal.returns-in_default-2
returns-in_default-2 c = sym (length_none _ (none_past _ _ (sym c.stated_length.ensures ∙ c.in-Ok.is) c.if-length-s.false))

pub returns-in_default-3 : goal.returns-in_default-3
returns-in_default-3 c = sym (length_none _ (none_said _ _ (sym c.stated_length.ensures ∙ c.in_default.is)))
