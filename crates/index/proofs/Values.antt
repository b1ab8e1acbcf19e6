-- Values of the index table, computed: the sets of a message's head, and the length of descriptors.
use Prim.Native.Nat.{ℕ}
use Rattle.std.specs.Prelude.{Result, Ok, Err}
use Rattle.ground_refusal.specs.declared.Refusal.{Refusal}
use mathlib.Core.Path.{◌≡◌, refl}
use mathlib.Core.List.{List, [], ◌∷◌, ◌++◌}
use lib.ListN.{length}
use Rattle.ground_refusal.specs.declared.Refusal.TheVariants.{ReservedBitZero, DigitAboveNine, OutsideSet}
use Rattle.time_days.specs.Calendar.{leap, month_length, is_date, months_from, year_of, month_of, days_of, month_start, day_number, in_range, has_day}
use Rattle.time_fields.specs.Field.{worth, decimal_pair, is_decimal, possible, moment_of, read_time, read_end}
use Rattle.body_formats.specs.Format.{number_at, count, only, number, bytes, every, halves, decimal, digits, reserved, nibbles, followed, view, rest, parse_many, many, length12, length_of, counted}
use Rattle.body_formats.specs.Time.{time, end_time}
use Rattle.body_formats.specs.Identifier.{identifier_year, identifier_month, identifier_day, has_real_day, identifier}
use Rattle.body_formats.specs.Answers.{step_of}
use Rattle.index.specs.Index.{descriptor, descriptors, head}

-- ---- the head of the drill's message, with another start, class or level

-- 36543200000000303010103202411030001, and network 1
abbrev begins : List ℕ
begins =
    0xF3 ∷ 0x65 ∷ 0x43 ∷ 0x20 ∷ 0x00 ∷ 0x00 ∷ 0x00 ∷ 0x03 ∷ 0x03 ∷ 0x01 ∷ 0x01 ∷ 0x03 ∷ 0x20 ∷ 0x24 ∷ 0x11 ∷ 0x03 ∷ 0x00 ∷ 0x01 ∷ 0 ∷ 1 ∷ []

-- 3 November 2024, 07:45:00 and 08:15:00 at +480, and 11A01
abbrev drill_start : List ℕ
drill_start = 0xEC ∷ 0xC8 ∷ 0x23 ∷ 0x45 ∷ 0x00 ∷ []

abbrev drill_end : List ℕ
drill_end = 0xEC ∷ 0xC9 ∷ 0x00 ∷ 0x15 ∷ 0x00 ∷ []

abbrev drill_type : List ℕ
drill_type = 0x31 ∷ 0x31 ∷ 0x41 ∷ 0x30 ∷ 0x31 ∷ []

-- where the head ends, or why it is refused
abbrev head_read : List ℕ → ℕ → Result ℕ Refusal
head_read start both = step_of (head.parse (begins ++ start ++ drill_end ++ drill_type ++ (both ∷ [])) 36 0)

pub heads :
    -- "class 4 bits (1 to 4), level 4 bits (1 to 4)"
    (head_read drill_start 0x34 ≡ Ok 36)
    × (head_read drill_start 0x04 ≡ Err (OutsideSet 35))
    × (head_read drill_start 0x54 ≡ Err (OutsideSet 35))
    × (head_read drill_start 0x30 ≡ Err (OutsideSet 35))
    × (head_read drill_start 0x35 ≡ Err (OutsideSet 35))
    -- "The live mark is tried first and only at the end field": at the start it is 18
    × (head_read (0xFF ∷ 0xFF ∷ 0xFF ∷ 0xFF ∷ 0xFF ∷ []) 0x34 ≡ Err (DigitAboveNine 20))
unfolding head followed identifier digits halves decimal has_real_day identifier_year identifier_month identifier_day has_day is_date month_length leap day_number months_from year_of month_of days_of month_start in_range number only count number_at time end_time read_time read_end is_decimal decimal_pair possible worth moment_of bytes every nibbles
heads = (refl, refl, refl, refl, refl, refl)

-- ---- descriptors

abbrev descriptors_read : List ℕ → Result ℕ Refusal
descriptors_read s = step_of (descriptors.parse s (length s) 0)

-- "4 reserved, length 12, descriptors": "A 12-bit length counts by its low ten bits", and its two top bits are 00
pub lengths :
    (descriptors_read (0xF0 ∷ 0x00 ∷ []) ≡ Ok 2)
    × (descriptors_read (0xF0 ∷ 0x02 ∷ 0x5F ∷ 0x00 ∷ []) ≡ Ok 4)
    × (descriptors_read (0xF4 ∷ 0x00 ∷ []) ≡ Err (ReservedBitZero 0))
unfolding descriptors descriptor view followed number only count rest counted length12 length_of reserved number_at many parse_many
lengths = (refl, refl, refl)
