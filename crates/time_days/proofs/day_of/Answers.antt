-- `day_of` meets its contract: what is no date of the range is refused, and any other date is left to its month.
use mathlib.Core.Path.{sym, ap₂, ◌∙◌}
use Prim.Native.Nat.{ℕ}
use native.Mathlib.Omega.{arith}
use Rattle.time_days.specs.Calendar.{months_from, day_of}
use Rattle.time_days.proofs.Months.{of_months}
use Rattle.time_days.proofs.Answers.{day_refused, day_month_until}
use Rattle.time_days.proofs.day_of.Goals as goal

pub returns-then-month-lt1 : goal.returns-then-month-lt1
returns-then-month-lt1 c = sym (day_refused _ _ _ (λ n v. omega (arith, day_month_until n _ _ _ v)))

pub returns : goal.returns
unfolding months_from
returns c = let a = c.args in
    let e = of_months a.year a.month (omega arith) (omega arith) (omega arith) in
    c.day_in.ensures ∙ ap₂ (λ (y m : ℕ). day_of y m a.day) e.0 e.1
