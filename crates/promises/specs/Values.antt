-- 01, 'Values to hold', the list marked (P): "Proved together as one statement over the list".
use Rattle.std.specs.Prelude.{ℕ, ◌≡◌, List, [], ◌∷◌, Ok}
use Rattle.time_days.specs.Calendar.{day_of, date_of, weekday_of}
use Rattle.crc.specs.Crc.{crc16_of, crc32_of}
use Rattle.section_cutter.specs.Cutting.{counted_of}

-- a day number and a date are each other's
abbrev pub IsDay : ℕ → ℕ → ℕ → ℕ → Type 0
IsDay n year month day = (date_of n ≡ Ok (record { year = year; month = month; day = day })) × (day_of year month day ≡ Ok n)

-- ASCII "123456789"
abbrev pub one_to_nine : List ℕ
one_to_nine = 0x31 ∷ 0x32 ∷ 0x33 ∷ 0x34 ∷ 0x35 ∷ 0x36 ∷ 0x37 ∷ 0x38 ∷ 0x39 ∷ []

abbrev pub Values : Type 0
Values =
    -- "MJD 15079 = 1 March 1900; 40587 = 1 January 1970, weekday 4"
    IsDay 15079 1900 3 1
    × IsDay 40587 1970 1 1
    × (weekday_of 40587 ≡ Ok 4)
    -- "51603 = 29 February 2000; 51604 = 1 March 2000"
    × IsDay 51603 2000 2 29
    × IsDay 51604 2000 3 1
    -- "60617 = 3 November 2024, weekday 7; 65535 = 22 April 2038"
    × IsDay 60617 2024 11 3
    × (weekday_of 60617 ≡ Ok 7)
    × IsDay 65535 2038 4 22
    -- "CRC-16 of ASCII "123456789" is 0x29B1; its CRC_32 is 0x0376E6E7"
    × (crc16_of one_to_nine ≡ 0x29B1)
    × (crc32_of one_to_nine ≡ 0x0376E6E7)
    -- "bodies of 4,084, 4,085 and 1,045,504 bytes make 1, 2 and 256 sections"
    × (counted_of 4084 ≡ Ok 1)
    × (counted_of 4085 ≡ Ok 2)
    × (counted_of 1045504 ≡ Ok 256)
