-- What a reader has to believe of a message's identifier, which a message in an index table begins with, and a content table.
use Rattle.std.specs.Prelude.{ℕ, ◌+◌, ◌-◌, ◌*◌, Bool, List, get_or}
use Rattle.ground_refusal.specs.declared.Refusal.TheVariants.{ImpossibleDay}
use Rattle.time_days.specs.Calendar.{has_day}
use Rattle.body_formats.specs.Reading.{Fault, unless}
use Rattle.body_formats.specs.Format.{Format, only, digits}

-- "4 reserved, 35 digits": a byte of the reserved bits and one digit, and 17 bytes of two digits
abbrev pub identifier_pairs : ℕ
identifier_pairs = 17

abbrev pub identifier_bytes : ℕ
identifier_bytes = 1 + identifier_pairs

-- M-101: "Digits 24 to 31 of the identifier (YYYYMMDD)"; digits count from 1
abbrev pub digit_of : List ℕ → ℕ → ℕ
digit_of ds i = get_or ds (i - 1) 0

unfoldable pub identifier_year : List ℕ → ℕ
identifier_year ds = digit_of ds 24 * 1000 + digit_of ds 25 * 100 + digit_of ds 26 * 10 + digit_of ds 27

unfoldable pub identifier_month : List ℕ → ℕ
identifier_month ds = digit_of ds 28 * 10 + digit_of ds 29

unfoldable pub identifier_day : List ℕ → ℕ
identifier_day ds = digit_of ds 30 * 10 + digit_of ds 31

-- "must be a real day from 1 March 1900 to 22 April 2038": a date that a day from 15079 to 65535 has
unfoldable pub has_real_day : List ℕ → Bool
has_real_day ds = has_day (identifier_year ds) (identifier_month ds) (identifier_day ds)

-- "20 at the identifier's place, after 18"
abbrev pub unreal_day : List ℕ → ℕ → Fault
unreal_day ds at = unless (has_real_day ds) (ImpossibleDay at)

unfoldable pub identifier : Format (List ℕ)
identifier = only unreal_day (digits identifier_pairs)
