-- Values of the configuration table, computed: contents of commands, and numbers too large for a clock.
use Prim.Native.Nat.{ℕ}
use Rattle.std.specs.Prelude.{Result, Ok, Err}
use Rattle.ground_refusal.specs.declared.Refusal.{Refusal}
use mathlib.Core.Path.{◌≡◌, refl}
use mathlib.Core.List.{List, [], ◌∷◌, ◌++◌}
use lib.ListN.{length}
use Rattle.ground_refusal.specs.declared.Refusal.TheVariants.{PastPart, OutsideSet, ImpossibleDay}
use Rattle.time_days.specs.Calendar.{leap, month_length, is_date, months_from, year_of, month_of, days_of, month_start, day_number, in_range, has_day, day_of}
use Rattle.body_formats.specs.Reading.{found, refused}
use Rattle.body_formats.specs.Format.{tape_entry, number_at, count, only, number, followed, repeat, list_of, rest, exact, view, length_of, least_of, counted}
use Rattle.body_formats.specs.Body.{reading, body_read}
use Rattle.configuration_addresses.specs.Address.{host_and_port, length_fits, is_address}
use Rattle.configuration.specs.Configuration.{configuration_kind, terminals, date, clock, address_length, address, order_of, said, least, command, fields, configuration}

-- a body of one command, its content from byte 4 on, and an empty signature
abbrev command_read : ℕ → List ℕ → Result ℕ Refusal
command_read tag content = body_read configuration configuration_kind configuration_kind (1 ∷ tag ∷ 0 ∷ length content ∷ (content ++ (0 ∷ 0 ∷ [])))

pub contents :
    -- "volume 100 accepted, 101 refused (19)"
    (command_read 6 (100 ∷ 0 ∷ []) ≡ Ok 8)
    × (command_read 6 (101 ∷ 0 ∷ []) ≡ Err (OutsideSet 4))
    -- too short: 15 at the length; too long: 15 at the first byte left over
    × (command_read 6 (100 ∷ []) ≡ Err (PastPart 2))
    × (command_read 6 (100 ∷ 0 ∷ 0 ∷ []) ≡ Err (PastPart 6))
    -- a kind 1 address of one digit: 15 at its length; an empty kind 3 address: 19 where it begins
    × (command_read 4 (1 ∷ 1 ∷ 0x30 ∷ 0 ∷ []) ≡ Err (PastPart 5))
    × (command_read 4 (3 ∷ 0 ∷ 0 ∷ []) ≡ Err (OutsideSet 6))
    -- 28 February 2014, 23:59:59; the 30th: 20 at the year; 23:59:60: 20 at the hour
    × (command_read 1 (0x07 ∷ 0xDE ∷ 2 ∷ 28 ∷ 23 ∷ 59 ∷ 59 ∷ []) ≡ Ok 13)
    × (command_read 1 (0x07 ∷ 0xDE ∷ 2 ∷ 30 ∷ 23 ∷ 59 ∷ 59 ∷ []) ≡ Err (ImpossibleDay 4))
    × (command_read 1 (0x07 ∷ 0xDE ∷ 2 ∷ 28 ∷ 23 ∷ 59 ∷ 60 ∷ []) ≡ Err (ImpossibleDay 8))
unfolding body_read reading configuration exact view fields followed list_of repeat count number_at command number only counted least_of least said order_of terminals length_of rest address address_length length_fits is_address host_and_port date clock day_of has_day is_date month_length leap in_range day_number month_start months_from days_of year_of month_of
contents = (refl, refl, refl, refl, refl, refl, refl, refl, refl)

-- numbers of a form that are too large for their fields: month 257, minute 256; and a tape that ends inside the clock
pub clocks_too_large :
    (date.form [] (2024 ∷ 257 ∷ 1 ∷ []) 0 ≡ refused (ImpossibleDay 0))
    × (clock.form [] (0 ∷ 256 ∷ 0 ∷ []) 0 ≡ refused (ImpossibleDay 0))
    × (date.form [] (2024 ∷ 257 ∷ []) 0 ≡ refused (OutsideSet 2))
unfolding date clock only followed count tape_entry day_of has_day is_date
clocks_too_large = (refl, refl, refl)

-- the standard's year: "2014: 0x7de"
pub year_2014 : (number 2).parse (0x07 ∷ 0xDE ∷ []) 2 0 ≡ found 2014 2
unfolding number only count number_at
year_2014 = refl
