-- What a reader has to believe of the refusals of local times and date text: 01's orders, each number with its condition.
use Rattle.std.specs.Prelude.{ℕ, ◌^◌, ◌≡◌, Bool, not, ◌&&◌, ◌||◌, List, [], ◌∷◌, leb, ℤ, pos, neg_ℤ, Result, Ok}
use Rattle.ground_refusal.specs.declared.Refusal.{Refusal}
use Rattle.std.specs.Int.Signed.{le_z}
use Rattle.ground_refusal.specs.declared.Refusal.TheVariants.{DigitAboveNine, OutsideSet, ImpossibleDay, NotOfTheForm}
use Rattle.time_days.specs.Calendar.{day_number, has_day}
use Rattle.time_fields.specs.declared.Moment.{Moment}
use Rattle.time_fields.specs.Field.{is_decimal, possible, moment_of}
use Rattle.time_offset.specs.Offset.{is_offset, day_moved}
use Rattle.time_local.specs.declared.LocalTime.{LocalTime}
use Rattle.time_local.specs.Clock.{is_clock, second_of}
use Rattle.time_local.specs.Text.{form, formed, typed}
use Rattle.promises_orders.specs.Order.{Line, ◌when◌}

-- ---- the two days

-- "a day outside 15079 to 65535"
unfoldable pub offset_outside : ℤ → Bool
offset_outside day = not (le_z (pos 15079) day && le_z day (pos 65535))

-- the day of a date that the calendar has, and the second of a time of day
unfoldable pub moment_at : LocalTime → Moment
moment_at t = record { day = day_number t.year t.month t.day; second = second_of t }

-- "UTC is local less offset, and a carry moves the day"
unfoldable pub utc_day : LocalTime → ℤ → ℤ
utc_day t offset = day_moved (moment_at t) (neg_ℤ offset)

-- "Local from UTC adds it"
unfoldable pub local_day : ℕ → ℤ → ℤ
local_day field offset = day_moved (moment_of field) offset

-- ---- the orders

-- "impossible day or time, or a day outside 15079 to 65535"; "Both the local and the UTC day must lie in range (else 20)"
unfoldable pub impossible : LocalTime → ℤ → Bool
impossible t offset = not (has_day t.year t.month t.day) || not (is_clock t) || offset_outside (utc_day t offset)

-- what is answered where nothing is refused: a field
abbrev pub IsField : Result ℕ Refusal → Type 0
IsField answer = (field : ℕ) × (answer ≡ Ok field)

-- "an offset of −720 to +840 minutes, east positive (else 19)", then 20
unfoldable pub packing_lines : LocalTime → ℤ → List Line
packing_lines t offset =
    OutsideSet 0 when not (is_offset offset)
    ∷ ImpossibleDay 0 when impossible t offset
    ∷ []

-- and a local date and time
abbrev pub IsLocalTime : Result LocalTime Refusal → Type 0
IsLocalTime answer = (t : LocalTime) × (answer ≡ Ok t)

-- "Local from UTC adds it (order 19, 18, 20)"
unfoldable pub unpacking_lines : ℕ → ℤ → List Line
unpacking_lines field offset =
    OutsideSet 0 when not (is_offset offset)
    -- 19: more than 40 bits are no time field, the project's own choice
    ∷ OutsideSet 0 when leb (2 ^ 40) field
    -- 18: "decimal digit above 9"
    ∷ DigitAboveNine 0 when not (is_decimal field)
    -- 20: "impossible day or time, or a day outside 15079 to 65535", of the UTC and of the local day
    ∷ ImpossibleDay 0 when (not (possible field) || offset_outside (local_day field offset))
    ∷ []

-- "Order: 19 (offset), 24, 20"
unfoldable pub text_lines : List ℕ → ℤ → List Line
text_lines s offset =
    OutsideSet 0 when not (is_offset offset)
    -- 24: "date text not of the exact form"
    ∷ NotOfTheForm when not (formed form s)
    ∷ ImpossibleDay 0 when impossible (typed s) offset
    ∷ []
