-- Document 01's sentences on lines, as theorems.
use Prim.Native.Nat.{ℕ, ◌+◌, ◌/◌, ◌%◌, ◌^◌}
use Rattle.std.specs.Prelude.{Ok}
use mathlib.Core.List.{List, [], ◌++◌}
use mathlib.Core.Path.{◌≡◌, refl}
use lib.IntN.{pos}
use Rattle.time_days.proofs.Answers.{weekday_given}
use Rattle.time_offset.specs.Offset.{is_offset}
use Rattle.time_local.specs.Text.{form, formed, read_text}
use Rattle.program_printing.specs.Characters.{ascii, digit_character, digits_of, places_within, places_of, decimal_of, refused_text, hex_of}
use Rattle.program_date_lines.specs.Report.{lines_of, field_text, time_answered, line_of, numbered, header, report_of}
use Rattle.program_date_lines.proofs.Text.{text_day}

-- an input of no bytes has no line
pub report_none : report_of [] ≡ header
unfolding report_of lines_of numbered
report_none = refl

-- "each ended by LF (the last may lack it)": an LF at the very end starts no further line
pub last_line : lines_of (ascii "a\n\nb\n") ≡ lines_of (ascii "a\n\nb")
unfolding lines_of
last_line = refl

-- "line number, ten-digit field, weekday": of an accepted line, whose day always has a weekday
pub accepted_line : (number : ℕ) (s : List ℕ) {f : ℕ} → read_text s (pos 0) ≡ Ok f
    → line_of number s ≡ decimal_of number ++ (ascii " " ++ ((hex_of 10 f ++ (ascii " " ++ decimal_of ((f / 2 ^ 24 + 2) % 7 + 1))) ++ ascii "\n"))
unfolding line_of time_answered field_text
accepted_line number s {f} e =
    let day = text_day s e in
    rw (e, weekday_given (f / 2 ^ 24) day.0 day.1)

-- "An empty line is refused (24)"
pub empty_line : (number : ℕ) → line_of number [] ≡ decimal_of number ++ ascii " refused 24\n"
unfolding line_of time_answered read_text form formed is_offset refused_text digit_character digits_of places_of places_within
empty_line number = refl
