-- The values that document 01 states for days, and the ones that show the century rule, in one theorem.
use mathlib.Core.Path.{◌≡◌, refl}
use Rattle.std.specs.Prelude.{Ok}
use mathlib.Core.Bool.{true, false}
use Rattle.time_days.specs.Calendar.{leap, month_length, is_date, months_from, year_of, month_of, days_of, month_start, day_number, in_range, has_day, day_of, date_from, date_of, weekday_of}

pub values :
    (leap 1900 ≡ false)
    × (leap 2000 ≡ true)
    × (leap 2024 ≡ true)
    × (month_length 1900 2 ≡ 28)
    × (month_length 2000 2 ≡ 29)
    × (day_of 1900 3 1 ≡ Ok 15079)
    × (date_of 15079 ≡ Ok (record { year = 1900; month = 3; day = 1 }))
    × (day_of 1970 1 1 ≡ Ok 40587)
    × (date_of 40587 ≡ Ok (record { year = 1970; month = 1; day = 1 }))
    × (weekday_of 40587 ≡ Ok 4)
    × (day_of 2000 2 29 ≡ Ok 51603)
    × (date_of 51603 ≡ Ok (record { year = 2000; month = 2; day = 29 }))
    × (day_of 2000 3 1 ≡ Ok 51604)
    × (date_of 51604 ≡ Ok (record { year = 2000; month = 3; day = 1 }))
    × (day_of 2024 11 3 ≡ Ok 60617)
    × (date_of 60617 ≡ Ok (record { year = 2024; month = 11; day = 3 }))
    × (weekday_of 60617 ≡ Ok 7)
    × (day_of 2038 4 22 ≡ Ok 65535)
    × (date_of 65535 ≡ Ok (record { year = 2038; month = 4; day = 22 }))
unfolding leap month_length is_date months_from year_of month_of days_of month_start day_number in_range has_day day_of date_from date_of weekday_of
values =
    (refl, refl, refl, refl, refl, refl, refl, refl, refl, refl, refl, refl, refl, refl, refl, refl, refl, refl, refl)
