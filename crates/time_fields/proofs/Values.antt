-- Fields and instants by their values: which fields are times at each end of what is accepted, and how a message stands at its borders.
use mathlib.Core.Path.{◌≡◌, refl}
use Rattle.std.specs.Prelude.{Result, Ok, Err, None}
use Rattle.ground_refusal.specs.declared.Refusal.{Refusal}
use Prim.Native.Nat.{ℕ}
use Rattle.ground_refusal.specs.declared.Refusal.TheVariants.{DigitAboveNine, OutsideSet, ImpossibleDay}
use Rattle.time_fields.specs.declared.Moment.{Moment}
use Rattle.time_fields.specs.declared.Showing.{Showing}
use Rattle.time_fields.specs.declared.Showing.TheVariants.{Before, On, Ended}
use Rattle.time_days.specs.Calendar.{in_range}
use Rattle.time_fields.specs.Field.{two_digits, worth, decimal_pair, is_decimal, possible, moment_of, read_time, read_end, is_instant, field_of, write_time, live_mark}
use Rattle.time_fields.specs.Showing.{earlier, shown_by, shown_from, showing}

abbrev pub moment : ℕ → ℕ → Moment
moment day second = record { day = day; second = second }

-- what is read at a place
pub record FieldsRead (at : ℕ) : Type 0 where
  -- 3 November 2024 07:45:00
  pub november : read_time 0xECC9074500 at ≡ Ok (moment 60617 27900)
  -- the last second of the last day, and 23:59:60, 23:60:00 and 24:00:00
  pub last : read_time 0xFFFF235959 at ≡ Ok (moment 65535 86399)
  pub no_second : read_time 0xFFFF235960 at ≡ Err (ImpossibleDay at)
  pub no_minute : read_time 0xFFFF236000 at ≡ Err (ImpossibleDay at)
  pub no_hour : read_time 0xFFFF240000 at ≡ Err (ImpossibleDay at)
  -- the first second of the first day, and the day before it
  pub earliest : read_time 0x3AE7000000 at ≡ Ok (moment 15079 0)
  pub no_day : read_time 0x3AE6000000 at ≡ Err (ImpossibleDay at)
  -- digits come before the day, and before both that the field has 40 bits
  pub digit_above_nine : read_time 0x3AE600000A at ≡ Err (DigitAboveNine at)
  pub too_wide : read_time 0x1000000000A at ≡ Err (OutsideSet at)
  -- 40 one bits are live at the end field and no time at the start; the eight F's that the standard prints are neither
  pub live_end : read_end 0xFFFFFFFFFF at ≡ Ok None
  pub live_start : read_time 0xFFFFFFFFFF at ≡ Err (DigitAboveNine at)
  pub eight_end : read_end 0x00FFFFFFFF at ≡ Err (DigitAboveNine at)
  pub eight_start : read_time 0x00FFFFFFFF at ≡ Err (DigitAboveNine at)

pub reads : (at : ℕ) → FieldsRead at
unfolding read_end read_time is_decimal decimal_pair possible in_range moment_of worth
reads at =
    record {
      november = refl;
      last = refl;
      no_second = refl;
      no_minute = refl;
      no_hour = refl;
      earliest = refl;
      no_day = refl;
      digit_above_nine = refl;
      too_wide = refl;
      live_end = refl;
      live_start = refl;
      eight_end = refl;
      eight_start = refl;
    }

pub record MomentsWritten : Type 0 where
  pub november : write_time (moment 60617 27900) ≡ Ok 0xECC9074500
  pub no_second : write_time (moment 60617 86400) ≡ Err (ImpossibleDay 0)
  pub no_day : write_time (moment 15078 0) ≡ Err (ImpossibleDay 0)
  pub too_late : write_time (moment 65536 0) ≡ Err (ImpossibleDay 0)

pub written : MomentsWritten
unfolding write_time is_instant in_range field_of two_digits
written = record { november = refl; no_second = refl; no_day = refl; too_late = refl }

-- a message from 1 November 2024 08:00:00 to 3 November 07:45:00, and one with the same start that is live
abbrev pub drill : ℕ → ℕ → Result Showing Refusal
drill day second = showing 0xECC7080000 0xECC9074500 (moment day second)

abbrev pub live_drill : ℕ → ℕ → Result Showing Refusal
live_drill day second = showing 0xECC7080000 live_mark (moment day second)

pub record DrillShown : Type 0 where
  pub day_before : drill 60614 86399 ≡ Ok Before
  pub second_before : drill 60615 28799 ≡ Ok Before
  pub at_start : drill 60615 28800 ≡ Ok On
  pub between : drill 60616 0 ≡ Ok On
  pub last_second : drill 60617 27899 ≡ Ok On
  pub at_end : drill 60617 27900 ≡ Ok Ended
  pub day_after_lem : drill 60618 0 ≡ Ok Ended
  pub live_before : live_drill 60615 28799 ≡ Ok Before
  pub live_on : live_drill 65535 86399 ≡ Ok On
  -- the instant's refusal comes before the start's, and the start's before the end's
  pub no_instant : showing live_mark 0 (moment 60617 86400) ≡ Err (ImpossibleDay 0)
  pub no_start : showing live_mark 0 (moment 60617 0) ≡ Err (DigitAboveNine 0)
  pub no_end : showing 0xECC7080000 0 (moment 60617 0) ≡ Err (ImpossibleDay 0)

pub shown : DrillShown
unfolding showing shown_from shown_by earlier is_instant read_end read_time is_decimal decimal_pair possible in_range moment_of worth
shown =
    record {
      day_before = refl;
      second_before = refl;
      at_start = refl;
      between = refl;
      last_second = refl;
      at_end = refl;
      day_after_lem = refl;
      live_before = refl;
      live_on = refl;
      no_instant = refl;
      no_start = refl;
      no_end = refl;
    }
