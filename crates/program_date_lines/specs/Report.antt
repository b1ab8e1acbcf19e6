-- What a reader has to believe of the date program: its whole output for any input, byte for byte.
use Rattle.std.specs.Prelude.{ℕ, suc, ◌/◌, ◌^◌, cond, List, [], ◌∷◌, ◌++◌, leb, eqb, pos, length, Result, Ok, Err}
use Rattle.ground_refusal.specs.declared.Refusal.{Refusal}
use Rattle.time_days.specs.Calendar.{weekday_of}
use Rattle.time_local.specs.Text.{read_text}
use Rattle.program_printing.specs.Input.{most_input}
use Rattle.program_printing.specs.Characters.{ascii, hex_of, decimal_of, refused_text}

-- ---- lines

abbrev pub on_first : ℕ → List (List ℕ) → List (List ℕ)
on_first b [] = (b ∷ []) ∷ []
on_first b (line ∷ lines) = (b ∷ line) ∷ lines

-- "lines .., each ended by LF (the last may lack it)": LF is 10, and every other byte is the first line's first
unfoldable pub lines_of : List ℕ → List (List ℕ)
lines_of [] = []
lines_of (b ∷ s) = cond (eqb b 10) ([] ∷ lines_of s) (on_first b (lines_of s))

-- ---- the report

-- "ten-digit field, weekday"
abbrev pub day_text : ℕ → Result ℕ Refusal → List ℕ
day_text field (Ok day) = hex_of 10 field ++ (ascii " " ++ decimal_of day)
day_text field (Err r) = refused_text r

-- a field's day stands in its high 16 bits
unfoldable pub field_text : ℕ → List ℕ
field_text field = day_text field (weekday_of (field / 2 ^ 24))

abbrev pub time_text : Result ℕ Refusal → List ℕ
time_text (Ok field) = field_text field
time_text (Err r) = refused_text r

-- "reads lines .., offset 0"
unfoldable pub time_answered : List ℕ → List ℕ
time_answered s = time_text (read_text s (pos 0))

unfoldable pub line_of : ℕ → List ℕ → List ℕ
line_of number s = decimal_of number ++ (ascii " " ++ (time_answered s ++ ascii "\n"))

unfoldable pub numbered : ℕ → List (List ℕ) → List ℕ
numbered number [] = []
numbered number (s ∷ lines) = line_of number s ++ numbered (suc number) lines

-- "the header line a fixed string"
abbrev pub header : List ℕ
header = ascii "line field weekday\n"

-- "at most 64 KiB; longer input gives the header and `0 refused 22`"
unfoldable pub report_of : List ℕ → List ℕ
report_of input = header ++ cond (leb (length input) most_input) (numbered 1 (lines_of input)) (ascii "0 refused 22\n")
