-- `body_identifier::usual_last` meets its contract: its two answers, by the month.
use mathlib.Core.Path.{refl}
use native.Mathlib.Omega.{arith}
use Rattle.body_identifier.proofs.usual_last.Goals as goal

pub returns-then-month-eq2 : goal.returns-then-month-eq2
returns-then-month-eq2 c = (omega arith, λ e. refl)

pub returns : goal.returns
returns c = (omega arith, λ e. absurd (c.if-month-eq2.false e))
