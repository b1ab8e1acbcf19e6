-- `configuration_rules::clocks::is_day` meets its contract: of a date that fits its fields `time_dates` says it, and no other has a day.
use Rattle.configuration_rules.proofs.Dated.{year_too_large, month_too_large, day_too_large}
use Rattle.configuration_rules.proofs.clocks.is_day.Goals as goal

pub returns-then-year-gt65535 : goal.returns-then-year-gt65535
returns-then-year-gt65535 c = year_too_large _ _ _ c.if-year-gt65535.true

pub returns-then-month-gt255 : goal.returns-then-month-gt255
returns-then-month-gt255 c = month_too_large _ _ _ c.if-month-gt255.true

pub returns-then-day-gt255 : goal.returns-then-day-gt255
returns-then-day-gt255 c = day_too_large _ _ _ c.if-day-gt255.true

pub returns : goal.returns
returns c = c.is_date.ensures
