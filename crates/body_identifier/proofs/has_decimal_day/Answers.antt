-- `body_identifier::has_decimal_day` meets its contract: a day that the comparisons tell is real, and of the others `has_day` tells.
use mathlib.Core.Path.{refl}
use borrow.Author.Rules.{rules}
use Rattle.body_identifier.proofs.Days.{usual_day}
use Rattle.body_identifier.proofs.has_decimal_day.Goals as goal

pub returns-then-year-month : goal.returns-then-year-month
returns-then-year-month c = let given = c.args in
    usual_day given.s.now given.p (search rules) (search rules) _ _ _ _ c.two_bytes-year.ensures refl refl c.usual_last-last.ensures
    c.if-year-month.true
