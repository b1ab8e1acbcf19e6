-- What a reader has to believe of local times: the UTC field of a local date and time, and the local date and time of a field.
use Rattle.std.specs.Prelude.{◌≡◌, Bool, true, ◌&&◌, cond, ℕ, ◌+◌, ◌*◌, ◌/◌, ◌%◌, leb, ℤ, Result, Ok, Err, Option, Some, None}
use Rattle.ground_refusal.specs.declared.Refusal.{Refusal}
use Rattle.time_days.specs.declared.Date.{Date}
use Rattle.ground_refusal.specs.declared.Refusal.TheVariants.{OutsideSet, ImpossibleDay}
use Rattle.time_days.specs.Calendar.{day_of, date_of}
use Rattle.time_fields.specs.declared.Moment.{Moment}
use Rattle.time_fields.specs.Field.{read_time, write_time}
use Rattle.time_offset.specs.Offset.{is_offset, to_utc, to_local, IsLocal}
use Rattle.time_local.specs.declared.LocalTime.{LocalTime}

-- ---- to UTC

-- "at most 23, 59, 59"
unfoldable pub is_clock : LocalTime → Bool
is_clock t = leb t.hour 23 && (leb t.minute 59 && leb t.second 59)

unfoldable pub second_of : LocalTime → ℕ
second_of t = t.hour * 3600 + t.minute * 60 + t.second

-- the time on a day that was found, or the refusal
unfoldable pub on_day : LocalTime → Result ℕ Refusal → Result Moment Refusal
on_day t (Ok day) = cond (is_clock t) (Ok (record { day = day; second = second_of t })) (Err (ImpossibleDay 0))
on_day t (Err r) = Err r

-- the moment of a local time: 20 for an impossible day or time
unfoldable pub local_moment : LocalTime → Result Moment Refusal
local_moment t = on_day t (day_of t.year t.month t.day)

-- the field of a local moment at an offset
unfoldable pub written : Result Moment Refusal → Result ℕ Refusal
written (Ok utc) = write_time utc
written (Err r) = Err r

unfoldable pub packed_at : ℤ → Result Moment Refusal → Result ℕ Refusal
packed_at offset (Ok local) = written (to_utc local offset)
packed_at offset (Err r) = Err r

-- "Local to UTC from numbers: 19 (offset), then 20"
unfoldable pub pack_of : LocalTime → ℤ → Result ℕ Refusal
pack_of t offset = cond (is_offset offset) (packed_at offset (local_moment t)) (Err (OutsideSet 0))

-- the answer of packing at an offset of the range: a field, or 20
unfoldable pub packed_as : Option ℕ → Result ℕ Refusal
packed_as (Some field) = Ok field
packed_as None = Err (ImpossibleDay 0)

-- ---- from UTC

-- the date and the time at a second of its day
unfoldable pub at_second : ℕ → Result Date Refusal → Result LocalTime Refusal
at_second s (Ok date) =
    Ok (record {
      year = date.year;
      month = date.month;
      day = date.day;
      hour = s / 3600;
      minute = s / 60 % 60;
      second = s % 60;
    })
at_second s (Err r) = Err r

unfoldable pub dated : Result Moment Refusal → Result LocalTime Refusal
dated (Ok local) = at_second local.second (date_of local.day)
dated (Err r) = Err r

unfoldable pub unpacked_at : ℤ → Result Moment Refusal → Result LocalTime Refusal
unpacked_at offset (Ok utc) = dated (to_local utc offset)
unpacked_at offset (Err r) = Err r

-- "UTC to local: 19, 18, 20"
unfoldable pub unpack_of : ℕ → ℤ → Result LocalTime Refusal
unpack_of field offset = cond (is_offset offset) (unpacked_at offset (read_time field 0)) (Err (OutsideSet 0))

-- ---- what is said of a local time and its field

-- the local moment m has the date and the time of day t
pub record Shows (t : LocalTime) (m : Moment) : Type 0 where
  pub day : day_of t.year t.month t.day ≡ Ok m.day
  pub clock : is_clock t ≡ true
  pub second : m.second ≡ second_of t

-- the field is that of the UTC moment whose local date and time, at the offset, is t
pub record IsFieldOf (t : LocalTime) (offset : ℤ) (field : ℕ) : Type 0 where
  pub local : Moment
  pub utc : Moment
  pub shows : Shows t local
  pub is_local : IsLocal local utc offset
  pub written : write_time utc ≡ Ok field
