-- `body_identifier::has_day` meets its contract: the digits of the day stand two and two in the bytes 12 to 15.
use mathlib.Core.Path.{◌∙◌}
use native.Mathlib.Omega.{arith}
use borrow.Author.Rules.{rules}
use Rattle.body_formats.proofs.Identifiers.{real_day}
use Rattle.body_identifier.proofs.has_day.Goals as goal

pub returns : goal.returns
returns c = let given = c.args in
    c.is_date.ensures ∙ real_day given.s.now given.p (search rules) _ _ _
    (omega (arith, c.digits_worth.ensures.0, c.digits_worth-2.ensures.0)) c.digits_worth-3.ensures.0 c.digits_worth-4.ensures.0
