-- Document 01's worked texts and times, in one theorem about the definitions.
use mathlib.Core.Path.{◌≡◌, refl}
use Rattle.std.specs.Prelude.{Ok, Err}
use mathlib.Core.List.{List, [], ◌∷◌}
use Prim.Native.Nat.{ℕ}
use lib.IntN.{pos}
use Rattle.ground_refusal.specs.declared.Refusal.TheVariants.{OutsideSet, ImpossibleDay, NotOfTheForm}
use Rattle.time_days.specs.Calendar.{leap, month_length, is_date, months_from, year_of, month_of, days_of, month_start, day_number, in_range, has_day, day_of}
use Rattle.time_fields.specs.Field.{two_digits, is_instant, field_of, write_time}
use Rattle.time_offset.specs.Offset.{floor_div, floor_mod, is_offset, timed_at, minute_moved, day_moved, second_moved, moved, to_utc}
use Rattle.time_local.specs.declared.LocalTime.{LocalTime}
use Rattle.time_local.specs.Clock.{is_clock, second_of, on_day, local_moment, written, packed_at, pack_of}
use Rattle.time_local.specs.Text.{form, fits, formed, two, typed, read_text}

-- 03/11/2024 07:45:00
abbrev third_november : List ℕ
third_november = 48 ∷ 51 ∷ 47 ∷ 49 ∷ 49 ∷ 47 ∷ 50 ∷ 48 ∷ 50 ∷ 52 ∷ 32 ∷ 48 ∷ 55 ∷ 58 ∷ 52 ∷ 53 ∷ 58 ∷ 48 ∷ 48 ∷ []

-- 13/11/2024 00:00:00
abbrev thirteenth_november : List ℕ
thirteenth_november = 49 ∷ 51 ∷ 47 ∷ 49 ∷ 49 ∷ 47 ∷ 50 ∷ 48 ∷ 50 ∷ 52 ∷ 32 ∷ 48 ∷ 48 ∷ 58 ∷ 48 ∷ 48 ∷ 58 ∷ 48 ∷ 48 ∷ []

-- 11/13/2024 00:00:00
abbrev month_thirteen : List ℕ
month_thirteen = 49 ∷ 49 ∷ 47 ∷ 49 ∷ 51 ∷ 47 ∷ 50 ∷ 48 ∷ 50 ∷ 52 ∷ 32 ∷ 48 ∷ 48 ∷ 58 ∷ 48 ∷ 48 ∷ 58 ∷ 48 ∷ 48 ∷ []

-- 03/11/2024 07:45:0
abbrev short : List ℕ
short = 48 ∷ 51 ∷ 47 ∷ 49 ∷ 49 ∷ 47 ∷ 50 ∷ 48 ∷ 50 ∷ 52 ∷ 32 ∷ 48 ∷ 55 ∷ 58 ∷ 52 ∷ 53 ∷ 58 ∷ 48 ∷ []

abbrev local : ℕ → ℕ → ℕ → ℕ → ℕ → ℕ → LocalTime
local y m d h n s = record { year = y; month = m; day = d; hour = h; minute = n; second = s }

pub values :
    (read_text third_november (pos 480) ≡ Ok 0xECC8234500)
    × (read_text third_november (pos 0) ≡ Ok 0xECC9074500)
    × (read_text thirteenth_november (pos 0) ≡ Ok 0xECD3000000)
    × (read_text month_thirteen (pos 0) ≡ Err (ImpossibleDay 0))
    × (read_text short (pos 0) ≡ Err NotOfTheForm)
    × (read_text short (pos 841) ≡ Err (OutsideSet 0))
    × (pack_of (local 1900 3 1 0 0 0) (pos 480) ≡ Err (ImpossibleDay 0))
    × (pack_of (local 1900 3 1 8 0 0) (pos 480) ≡ Ok 0x3AE7000000)
    × (pack_of (local 2024 11 3 24 0 0) (pos 0) ≡ Err (ImpossibleDay 0))
unfolding leap month_length is_date months_from year_of month_of days_of month_start day_number in_range has_day day_of two_digits is_instant field_of write_time floor_div floor_mod is_offset timed_at minute_moved day_moved second_moved moved to_utc is_clock second_of on_day local_moment written packed_at pack_of form fits formed two typed read_text
values = (refl, refl, refl, refl, refl, refl, refl, refl, refl)
