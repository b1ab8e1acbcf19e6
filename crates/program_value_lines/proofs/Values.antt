-- The library's answers to the values that document 01 has "run and compared", computed, and with them the whole report.
use mathlib.Core.Path.{◌≡◌, refl, ap}
use mathlib.Core.List.{[], ◌∷◌, ◌++◌}
use lib.ListN.{length}
use Rattle.ground_refusal.specs.declared.Refusal.TheVariants.{PastBody, LeftOver, OutsideSet, ImpossibleDay}
use Rattle.time_days.specs.Calendar.{leap, month_length, is_date, months_from, year_of, month_of, days_of, month_start, day_number, in_range, has_day, day_of, date_of}
use Rattle.time_fields.specs.Field.{two_digits, is_instant, field_of, write_time}
use Rattle.time_offset.specs.Offset.{floor_div, floor_mod, is_offset, timed_at, minute_moved, day_moved, second_moved, moved, to_utc}
use Rattle.time_local.specs.Clock.{is_clock, second_of, on_day, local_moment, written, packed_at, pack_of}
use Rattle.time_local.specs.Text.{form, fits, formed, two, typed, read_text}
use Rattle.time_local.proofs.Values as local
use Rattle.body_formats.specs.Format.{number_at, count, followed, repeat, list_of, rest, exact, view, length_of, counted}
use Rattle.body_formats.specs.Body.{reading, body_read}
use Rattle.index.specs.Index.{fields, index}
use Rattle.configuration.proofs.Values as configuration
use Rattle.program_printing.specs.Characters.{ascii, digit_character, digits_of, places_within, places_of, refused_text}
use Rattle.program_value_lines.specs.declared.Answer.TheVariants.{Accepted, Field, Refused, RefusedAt}
use Rattle.program_value_lines.specs.Report.{value_text, said_text, line_of, field_value, step_answer, of_day, of_time, of_index, of_volume, day_line, november_line, march_line, time_lines, three_line, two_line, four_line, index_lines, full_line, above_line, volume_lines, report_of}

-- "MJD 15078 refused (20)"
before_the_first : of_day 15078 ≡ Refused (ImpossibleDay 0)
unfolding of_day date_of in_range
before_the_first = refl

-- "3 November 2024 07:45:00 at +480 is ECC8234500; 1 March 1900 00:00:00 at +480 refused (20)"
november : of_time (ascii "03/11/2024 07:45:00") ≡ Field 0xECC8234500
unfolding of_time
november = ap field_value (local.values).0

march : of_time (ascii "01/03/1900 00:00:00") ≡ Refused (ImpossibleDay 0)
unfolding of_time leap month_length is_date months_from year_of month_of days_of month_start day_number in_range has_day day_of two_digits is_instant field_of write_time floor_div floor_mod is_offset timed_at minute_moved day_moved second_moved moved to_utc is_clock second_of on_day local_moment written packed_at pack_of form fits formed two typed read_text
march = refl

-- "index body 00 00 00 accepted, 00 00 refused (14, place 1), 00 00 00 00 refused (16, place 3)"
indexes : (of_index (0 ∷ 0 ∷ 0 ∷ []) ≡ Accepted)
    × (of_index (0 ∷ 0 ∷ []) ≡ RefusedAt (PastBody 1))
    × (of_index (0 ∷ 0 ∷ 0 ∷ 0 ∷ []) ≡ RefusedAt (LeftOver 3))
unfolding of_index body_read reading index exact view fields followed list_of repeat count number_at counted length_of rest
indexes = (refl, refl, refl)

-- "volume 100 accepted, 101 refused (19)"
volumes : (of_volume 100 ≡ Accepted) × (of_volume 101 ≡ Refused (OutsideSet 4))
unfolding of_volume
volumes = (ap step_answer (configuration.contents).0, ap step_answer (configuration.contents).1)

-- every answer is the one that document 01 says
pub report_text : report_of
    ≡ ascii "MJD 15078: refused 20 (01: refused 20)\n"
    ++ (ascii "03/11/2024 07:45:00 at +480: ECC8234500 (01: ECC8234500)\n"
    ++ (ascii "01/03/1900 00:00:00 at +480: refused 20 (01: refused 20)\n"
    ++ (ascii "index 00 00 00: accepted (01: accepted)\n"
    ++ (ascii "index 00 00: refused 14 at 1 (01: refused 14 at 1)\n"
    ++ (ascii "index 00 00 00 00: refused 16 at 3 (01: refused 16 at 3)\n"
    ++ (ascii "volume 100: accepted (01: accepted)\n"
    ++ ascii "volume 101: refused 19 (01: refused 19)\n"))))))
unfolding report_of time_lines day_line november_line march_line index_lines three_line two_line four_line volume_lines full_line above_line line_of said_text value_text refused_text digit_character digits_of places_of places_within
report_text = rw (before_the_first, november, march, indexes.0, indexes.1, indexes.2, volumes.0, volumes.1)

pub report_long : length (time_lines ++ (index_lines ++ volume_lines)) ≡ 377
unfolding report_of
report_long = ap length report_text
