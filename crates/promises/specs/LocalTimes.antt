-- Local times and date text, day first: 3 November, typed 03/11, is day 3 of month 11 and never 11 March, the error that the project began with.
use Rattle.std.specs.Prelude.{ℕ, ◌^◌, ◌<◌, ◌≡◌, true, false, List, ◌∷◌, ◌↔◌, ℤ, Ok, Err}
use Rattle.ground_refusal.specs.declared.Refusal.TheVariants.{ImpossibleDay, NotOfTheForm}
use Rattle.time_days.specs.Calendar.{is_date, has_day}
use Rattle.time_fields.specs.Field.{is_decimal, possible}
use Rattle.time_offset.specs.Offset.{is_offset}
use Rattle.time_local.specs.Clock.{is_clock, pack_of, unpack_of, IsFieldOf}
use Rattle.time_local.specs.Text.{slash, read_text, Typable, text_of, IsText}
use Rattle.time_local.specs.declared.LocalTime.{LocalTime}
use Rattle.promises_orders.specs.Times.{offset_outside, utc_day, local_day}

-- ---- "Both the local and the UTC day must lie in range (else 20)"

-- why a local time has no field: the calendar has no such date, or a day no such time, or one of the two days is out of range
pub data NoField (t : LocalTime) (offset : ℤ) : Type 0 where
  no_date : is_date t.year t.month t.day ≡ false → NoField t offset
  no_time : is_clock t ≡ false → NoField t offset
  local_outside : is_date t.year t.month t.day ≡ true → has_day t.year t.month t.day ≡ false → NoField t offset
  utc_outside : offset_outside (utc_day t offset) ≡ true → NoField t offset

-- why a field has no local time: its own day is out of range or its time is none; or the local day is out of range
pub data NoLocalTime (field : ℕ) (offset : ℤ) : Type 0 where
  no_moment : possible field ≡ false → NoLocalTime field offset
  moved_outside : offset_outside (local_day field offset) ≡ true → NoLocalTime field offset

-- ---- text

-- `03/11/`, and whatever is typed after it
unfoldable pub third_of_november : List ℕ → List ℕ
third_of_november rest = 48 ∷ 51 ∷ slash ∷ 49 ∷ 49 ∷ slash ∷ rest

-- ---- the statements

pub record LocalTimes : Type 0 where
  -- "UTC is local less offset": a local time is packed as a field, and the field unpacked as the local time, exactly if it is that field
  pub packs_exactly : (t : LocalTime) (offset : ℤ) (field : ℕ) → (pack_of t offset ≡ Ok field) ↔ IsFieldOf t offset field
  pub unpacks_exactly : (t : LocalTime) (offset : ℤ) (field : ℕ) → (unpack_of field offset ≡ Ok t) ↔ IsFieldOf t offset field
  -- so there and back
  pub there_and_back : (t : LocalTime) (offset : ℤ) (field : ℕ) → (pack_of t offset ≡ Ok field) ↔ (unpack_of field offset ≡ Ok t)
  -- 20 exactly where there is none
  pub pack_refused : (t : LocalTime) (offset : ℤ) → is_offset offset ≡ true → (pack_of t offset ≡ Err (ImpossibleDay 0)) ↔ NoField t offset
  pub unpack_refused : (field : ℕ) (offset : ℤ) → is_offset offset ≡ true → field < 2 ^ 40 → is_decimal field ≡ true
      → (unpack_of field offset ≡ Err (ImpossibleDay 0)) ↔ NoLocalTime field offset
  -- "exactly `dd/mm/yyyy hh:mm:ss`, 19 bytes, day first": the characters of a local time are read as that local time,
  pub reads_text : (t : LocalTime) → Typable t → (offset : ℤ) → read_text (text_of t) offset ≡ pack_of t offset
  -- a text is accepted exactly if it is the characters of the local time that unpacking gives back,
  pub accepts_exactly : (s : List ℕ) (offset : ℤ) (field : ℕ) → (read_text s offset ≡ Ok field) ↔ IsText s offset field
  -- and 24 is every text that is the characters of none
  pub other_text : (s : List ℕ) (offset : ℤ) → is_offset offset ≡ true
      → (read_text s offset ≡ Err NotOfTheForm) ↔ ((t : LocalTime) → Typable t → s ≡ text_of t → ⊥)
  -- 3 November: what is typed 03/11 and accepted is day 3 of month 11
  pub third_of_november_lem : (rest : List ℕ) (offset : ℤ) (field : ℕ) → read_text (third_of_november rest) offset ≡ Ok field
      → (t : LocalTime) × (unpack_of field offset ≡ Ok t) × (t.day ≡ 3) × (t.month ≡ 11)
