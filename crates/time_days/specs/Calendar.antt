-- What a reader has to believe of days: the Gregorian calendar, and the day number (MJD) of its dates from March 1900 to April 2038.
use Rattle.std.specs.Prelude.{◌≡◌, Bool, not, ◌&&◌, ◌||◌, cond, List, ℕ, zero, suc, ◌+◌, ◌-◌, ◌*◌, ◌/◌, ◌%◌, ◌<◌, eqb, leb, ltb, get_or, Result, Ok, Err}
use Rattle.ground_refusal.specs.declared.Refusal.{Refusal}
use Rattle.ground_refusal.specs.declared.Refusal.TheVariants.{ImpossibleDay}
use Rattle.time_days.specs.declared.Date.{Date}

-- ---- the calendar

-- a year divisible by 4 is a leap year, but of the centuries only those divisible by 400
unfoldable pub leap : ℕ → Bool
leap y = eqb (y % 4) 0 && (not (eqb (y % 100) 0) || eqb (y % 400) 0)

-- the days of month m of year y
unfoldable pub month_length : ℕ → ℕ → ℕ
month_length y m =
    cond (eqb m 2) (cond (leap y) 29 28)
    (cond (eqb m 4 || eqb m 6 || eqb m 9 || eqb m 11) 30 31)

-- a day of the calendar: a month from 1 to 12, a day from 1 to the month's length
unfoldable pub is_date : ℕ → ℕ → ℕ → Bool
is_date y m d = leb 1 m && leb m 12 && leb 1 d && leb d (month_length y m)

-- ---- months, counted from March 1900, which is 0

unfoldable pub months_from : ℕ → ℕ → ℕ
months_from y m = y * 12 + m - (1900 * 12 + 3)

unfoldable pub year_of : ℕ → ℕ
year_of k = 1900 + (k + 2) / 12

unfoldable pub month_of : ℕ → ℕ
month_of k = (k + 2) % 12 + 1

unfoldable pub days_of : ℕ → ℕ
days_of k = month_length (year_of k) (month_of k)

-- "MJD 15079 = 1 March 1900", and each month starts where the one before it ends
unfoldable pub month_start : ℕ → ℕ
month_start zero = 15079
month_start (suc k) = month_start k + days_of k

-- ---- the day of a date

unfoldable pub day_number : ℕ → ℕ → ℕ → ℕ
day_number y m d = month_start (months_from y m) + (d - 1)

-- "a day outside 15079 to 65535" is refused
unfoldable pub in_range : ℕ → Bool
in_range n = leb 15079 n && leb n 65535

-- a date of the calendar, not before March 1900, whose day is in the range
unfoldable pub has_day : ℕ → ℕ → ℕ → Bool
has_day y m d = is_date y m d && leb (1900 * 12 + 3) (y * 12 + m) && in_range (day_number y m d)

-- "20: impossible day or time, or a day outside 15079 to 65535"
unfoldable pub day_of : ℕ → ℕ → ℕ → Result ℕ Refusal
day_of y m d =
    cond (has_day y m d)
    (Ok (day_number y m d))
    (Err (ImpossibleDay 0))

-- ---- the date of a day

-- day d of month k
abbrev pub date_at : ℕ → ℕ → Date
date_at k d = record { year = year_of k; month = month_of k; day = d }

-- the date `left` days after the first of month k: whole months are counted off, at most `months` of them
unfoldable pub date_from : ℕ → ℕ → ℕ → Date
date_from zero k left = date_at k (left + 1)
date_from (suc months) k left =
    let later = date_from months (suc k) (left - days_of k) in
    cond (ltb left (days_of k)) (date_at k (left + 1)) later

-- "month starts from March 1900 to April 2038": 1,658 months
unfoldable pub date_of : ℕ → Result Date Refusal
date_of n =
    cond (in_range n)
    (Ok (date_from 1657 0 (n - 15079)))
    (Err (ImpossibleDay 0))

-- the day after a date, by the months' lengths
unfoldable pub day_after : Date → Date
day_after a =
    cond (ltb a.day (month_length a.year a.month))
    (record { year = a.year; month = a.month; day = a.day + 1 })
    (cond (ltb a.month 12)
    (record { year = a.year; month = a.month + 1; day = 1 })
    (record { year = a.year + 1; month = 1; day = 1 }))

-- ---- the weekday of a day

-- "Weekday is (MJD + 2) mod 7 + 1, Monday 1"
unfoldable pub weekday_of : ℕ → Result ℕ Refusal
weekday_of n =
    cond (in_range n)
    (Ok ((n + 2) % 7 + 1))
    (Err (ImpossibleDay 0))

-- ---- the table

-- "Month starts from March 1900 to April 2038 stand in one table of 1,658 day numbers"
pub record IsMonths (ts : List ℕ) : Type 0 where
  pub entry : (k : ℕ) → k < 1658 → get_or ts k 0 ≡ month_start k
