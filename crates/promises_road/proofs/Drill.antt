-- The drill's form, computed: its times are accepted, and its index can be sent.
use Prim.Native.Nat.{ℕ, zero, suc, ◌≤◌, ◌<◌}
use mathlib.Core.Bool.{true, false}
use mathlib.Core.List.{List, [], ◌∷◌}
use mathlib.Core.Path.{◌≡◌, refl}
use native.Mathlib.Omega.{arith}
use borrow.Author.Tests.{leb-true, ltb-true}
use lib.Dec.{ltb}
use lib.IntN.{pos}
use lib.ListN.{length, get_or}
use Rattle.crc.specs.Crc.{AreBytes}
use Rattle.ground_choices.proofs.Tests.{both}
use Rattle.ground_numbers.specs.Sizes.{body_most}
use Rattle.time_days.specs.Calendar.{leap, month_length, is_date, months_from, year_of, month_of, days_of, month_start, day_number, in_range, has_day}
use Rattle.time_fields.specs.Field.{worth, decimal_pair, is_decimal, possible, moment_of, read_time, read_end}
use Rattle.time_local.proofs.Values.{values}
use Rattle.time_printing.specs.Typing.{with_end, together}
use Rattle.time_printing.proofs.Laws.{live_typed, typed_as}
use Rattle.body_formats.specs.Format.{bytes_of, count, only, number, bytes, every, some, print_all, paired, decimal, digits}
use Rattle.body_formats.specs.Format.{reserved, nibbles, followed, nothing, under, view, list_of, rest, exact, length_of, counted}
use Rattle.body_formats.specs.Time.{time, end_time}
use Rattle.body_formats.specs.Identifier.{identifier_year, identifier_month, identifier_day, has_real_day, identifier}
use Rattle.index.specs.Index.{head, flagged, message_fields, message, fields, index}
use Rattle.promises_road.specs.Road.{AllTyped}
use Rattle.promises_road.specs.Travelled.{drill_times, drill_message, drill_index}

pub drill_typed : AllTyped (pos 480) drill_times drill_index.messages
unfolding drill_times drill_message drill_index together with_end
drill_typed = (typed_as _ _ true (pos 480) _ _ values.0 (live_typed true [] (pos 480) refl), tt)

pub drill_writable : index.writable drill_index ≡ true
unfolding drill_message drill_index index fields message message_fields head flagged exact view followed list_of count counted length_of rest number only
    bytes every digits decimal identifier has_real_day identifier_year identifier_month identifier_day has_day is_date month_length leap day_number months_from
    year_of month_of days_of month_start in_range time end_time read_time read_end is_decimal decimal_pair possible worth moment_of nibbles reserved under
    nothing
drill_writable = refl

pub drill_small : index.too_large drill_index ≡ false
unfolding drill_message drill_index index fields message message_fields head flagged exact view followed list_of count counted length_of rest number only
    bytes some print_all bytes_of paired digits identifier time end_time nibbles reserved under nothing
drill_small = refl

all_bytes : (s : List ℕ) → every (λ x. ltb x 256) s ≡ true → (i : ℕ) → get_or s i 0 < 256
unfolding every
all_bytes [] e i = omega arith
all_bytes (x ∷ xs) e zero = ltb-true x 256 (both (ltb x 256) _ e).0
all_bytes (x ∷ xs) e (suc i) = all_bytes xs (both (ltb x 256) _ e).1 i

pub drill_bytes : AreBytes (index.print drill_index)
unfolding drill_message drill_index index fields message message_fields head flagged exact view followed list_of count counted length_of rest number only
    bytes every print_all bytes_of paired digits identifier time end_time nibbles reserved under nothing
drill_bytes = record { byte = all_bytes (index.print drill_index) refl }

pub drill_short : length (index.print drill_index) ≤ body_most
unfolding drill_message drill_index index fields message message_fields head flagged exact view followed list_of count counted length_of rest number only
    bytes print_all bytes_of paired digits identifier time end_time nibbles reserved under nothing
drill_short = leb-true (length (index.print drill_index)) body_most refl
