-- What a reader has to believe of time fields: which numbers of 40 bits are a time, which time each is, and the field of a time.
use Rattle.std.specs.Prelude.{Bool, not, ◌&&◌, cond, List, [], ◌∷◌, ℕ, ◌+◌, ◌-◌, ◌*◌, ◌/◌, ◌%◌, ◌^◌, leb, eqb, get_or, Result, Ok, Err, Option, Some, None}
use Rattle.ground_refusal.specs.declared.Refusal.{Refusal}
use Rattle.time_days.specs.Calendar.{in_range}
use Rattle.ground_refusal.specs.declared.Refusal.TheVariants.{DigitAboveNine, OutsideSet, ImpossibleDay}
use Rattle.time_fields.specs.declared.Moment.{Moment}

-- two decimal digits as they stand in a byte, and what they are worth
unfoldable pub two_digits : ℕ → ℕ
two_digits n = n / 10 * 16 + n % 10

unfoldable pub worth : ℕ → ℕ
worth pair = pair / 16 * 10 + pair % 16

-- "decimal digit above 9": neither digit of a byte is one
unfoldable pub decimal_pair : ℕ → Bool
decimal_pair pair = leb (pair / 16) 9 && leb (pair % 16) 9

-- "16-bit MJD, then six digits hhmmss": the parts of a field
abbrev pub day_part : ℕ → ℕ
day_part f = f / 2 ^ 24

abbrev pub hour_part : ℕ → ℕ
hour_part f = f / 2 ^ 16 % 2 ^ 8

abbrev pub minute_part : ℕ → ℕ
minute_part f = f / 2 ^ 8 % 2 ^ 8

abbrev pub second_part : ℕ → ℕ
second_part f = f % 2 ^ 8

-- all six digits
unfoldable pub is_decimal : ℕ → Bool
is_decimal f = decimal_pair (hour_part f) && (decimal_pair (minute_part f) && decimal_pair (second_part f))

-- a day of the range and "at most 23, 59, 59"
unfoldable pub possible : ℕ → Bool
possible f =
    in_range (day_part f)
    && (leb (worth (hour_part f)) 23
    && (leb (worth (minute_part f)) 59
    && leb (worth (second_part f)) 59))

-- the day of a field, and the second of the day
unfoldable pub moment_of : ℕ → Moment
moment_of f =
    record { day = day_part f; second = worth (hour_part f) * 3600 + worth (minute_part f) * 60 + worth (second_part f) }

-- "At a time field digits come before day and range"; before both, a number of more than 40 bits is outside the field's set
unfoldable pub read_time : ℕ → ℕ → Result Moment Refusal
read_time f at =
    cond (leb (2 ^ 40) f) (Err (OutsideSet at))
    (cond (not (is_decimal f)) (Err (DigitAboveNine at))
    (cond (not (possible f)) (Err (ImpossibleDay at))
    (Ok (moment_of f))))

-- "We take 40 one bits"
abbrev pub live_mark : ℕ
live_mark = 2 ^ 40 - 1

-- what a time says at the end field
abbrev pub as_end : Result Moment Refusal → Result (Option Moment) Refusal
as_end (Ok m) = Ok (Some m)
as_end (Err r) = Err r

-- "The live mark is tried first and only at the end field"
unfoldable pub read_end : ℕ → ℕ → Result (Option Moment) Refusal
read_end f at = cond (eqb f live_mark) (Ok None) (as_end (read_time f at))

-- "a day and a second of it; 20 for a day out of range or a second above 86,399"
unfoldable pub is_instant : Moment → Bool
is_instant m = in_range m.day && leb m.second 86399

-- the field of a day and a second of it
unfoldable pub field_of : Moment → ℕ
field_of m =
    m.day * 2 ^ 24
    + two_digits (m.second / 3600) * 2 ^ 16
    + two_digits (m.second / 60 % 60) * 2 ^ 8
    + two_digits (m.second % 60)

-- writers refuse at place 0
unfoldable pub write_time : Moment → Result ℕ Refusal
write_time m = cond (is_instant m) (Ok (field_of m)) (Err (ImpossibleDay 0))

-- the five bytes of a field, the high one first: of a larger number its low 40 bits
unfoldable pub field_bytes : ℕ → List ℕ
field_bytes f =
    f / 2 ^ 32 % 2 ^ 8 ∷ f / 2 ^ 24 % 2 ^ 8 ∷ f / 2 ^ 16 % 2 ^ 8 ∷ f / 2 ^ 8 % 2 ^ 8 ∷ f % 2 ^ 8 ∷ []

-- the field that five bytes hold
unfoldable pub bytes_field : List ℕ → ℕ
bytes_field b =
    get_or b 0 0 * 2 ^ 32 + get_or b 1 0 * 2 ^ 24 + get_or b 2 0 * 2 ^ 16 + get_or b 3 0 * 2 ^ 8 + get_or b 4 0
