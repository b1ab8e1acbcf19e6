-- `time_dates::is_date` meets its contract: before the last month its length decides, in the last month the range's end.
use native.Mathlib.Omega.{arith}
use Rattle.time_days.proofs.Answers.{day_month_until}
use Rattle.time_dates.proofs.Dates.{date_not, date_before, date_last}
use Rattle.time_dates.proofs.is_date.Goals as goal

pub returns-then-month-lt1 : goal.returns-then-month-lt1
returns-then-month-lt1 c = date_not _ _ _ (λ n v. omega (arith, day_month_until _ _ _ _ v))

pub returns-then-months-eq-LAST_MONTH : goal.returns-then-months-eq-LAST_MONTH
returns-then-months-eq-LAST_MONTH c = date_last _ _ _ (omega arith) (omega arith) (omega arith) (omega arith) (omega arith)

pub returns : goal.returns
returns c = date_before _ _ _ (omega arith) (omega arith) (omega arith) (omega arith) _ c.month_length.ensures (omega arith)
