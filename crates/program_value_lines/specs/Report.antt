-- What a reader has to believe of the values program: its whole output, each answer by the library's own definition.
use Rattle.std.specs.Prelude.{ℕ, List, [], ◌∷◌, ◌++◌, pos, Result, Ok, Err}
use Rattle.ground_refusal.specs.declared.Refusal.{Refusal}
use Rattle.time_days.specs.declared.Date.{Date}
use Rattle.ground_refusal.specs.Numbers.{refusal_place}
use Rattle.time_days.specs.Calendar.{date_of}
use Rattle.time_local.specs.Text.{read_text}
use Rattle.body_formats.specs.Body.{body_read}
use Rattle.index.specs.Index.{index, index_kind}
use Rattle.configuration.specs.Configuration.{configuration, configuration_kind}
use Rattle.program_printing.specs.Characters.{ascii, hex_of, decimal_of, refused_text}
use Rattle.program_value_lines.specs.declared.Answer.{Answer}
use Rattle.program_value_lines.specs.declared.Answer.TheVariants.{Accepted, Field, Refused, RefusedAt}

-- ---- a line

unfoldable pub value_text : Answer → List ℕ
value_text Accepted = ascii "accepted"
value_text (Field field) = hex_of 10 field
value_text (Refused r) = refused_text r
value_text (RefusedAt r) = refused_text r ++ (ascii " at " ++ decimal_of (refusal_place r))

-- what document 01 says
unfoldable pub said_text : List ℕ → List ℕ
said_text said = ascii " (01: " ++ (said ++ ascii ")\n")

-- the value's name, the library's answer, and what document 01 says
unfoldable pub line_of : List ℕ → Answer → List ℕ → List ℕ
line_of name answer said = name ++ (ascii ": " ++ (value_text answer ++ said_text said))

-- ---- the library's answers

abbrev pub date_value : Result Date Refusal → Answer
date_value (Ok date) = Accepted
date_value (Err r) = Refused r

unfoldable pub of_day : ℕ → Answer
of_day day = date_value (date_of day)

abbrev pub field_value : Result ℕ Refusal → Answer
field_value (Ok field) = Field field
field_value (Err r) = Refused r

-- a local time "at +480"
unfoldable pub of_time : List ℕ → Answer
of_time text = field_value (read_text text (pos 480))

-- a refused index is stated with its place: "(14, place 1)"
abbrev pub placed_answer : Result ℕ Refusal → Answer
placed_answer (Ok end) = Accepted
placed_answer (Err r) = RefusedAt r

unfoldable pub of_index : List ℕ → Answer
of_index body = placed_answer (body_read index index_kind index_kind body)

-- a refused volume is not: "(19)"
abbrev pub step_answer : Result ℕ Refusal → Answer
step_answer (Ok end) = Accepted
step_answer (Err r) = Refused r

-- a configuration body of one command 6, of two bytes: the volume and no terminals; then an empty signature
unfoldable pub of_volume : ℕ → Answer
of_volume volume = step_answer (body_read configuration configuration_kind configuration_kind (1 ∷ 6 ∷ 0 ∷ 2 ∷ volume ∷ 0 ∷ 0 ∷ 0 ∷ []))

-- ---- "Run and compared"

-- "MJD 15078 refused (20)"
unfoldable pub day_line : List ℕ
day_line = line_of (ascii "MJD 15078") (of_day 15078) (ascii "refused 20")

-- "3 November 2024 07:45:00 at +480 is ECC8234500"
unfoldable pub november_line : List ℕ
november_line = line_of (ascii "03/11/2024 07:45:00 at +480") (of_time (ascii "03/11/2024 07:45:00")) (ascii "ECC8234500")

-- "1 March 1900 00:00:00 at +480 refused (20)"
unfoldable pub march_line : List ℕ
march_line = line_of (ascii "01/03/1900 00:00:00 at +480") (of_time (ascii "01/03/1900 00:00:00")) (ascii "refused 20")

unfoldable pub time_lines : List ℕ
time_lines = day_line ++ (november_line ++ march_line)

-- "index body 00 00 00 accepted"
unfoldable pub three_line : List ℕ
three_line = line_of (ascii "index 00 00 00") (of_index (0 ∷ 0 ∷ 0 ∷ [])) (ascii "accepted")

-- "00 00 refused (14, place 1)"
unfoldable pub two_line : List ℕ
two_line = line_of (ascii "index 00 00") (of_index (0 ∷ 0 ∷ [])) (ascii "refused 14 at 1")

-- "00 00 00 00 refused (16, place 3)"
unfoldable pub four_line : List ℕ
four_line = line_of (ascii "index 00 00 00 00") (of_index (0 ∷ 0 ∷ 0 ∷ 0 ∷ [])) (ascii "refused 16 at 3")

unfoldable pub index_lines : List ℕ
index_lines = three_line ++ (two_line ++ four_line)

-- "volume 100 accepted"
unfoldable pub full_line : List ℕ
full_line = line_of (ascii "volume 100") (of_volume 100) (ascii "accepted")

-- "101 refused (19)"
unfoldable pub above_line : List ℕ
above_line = line_of (ascii "volume 101") (of_volume 101) (ascii "refused 19")

unfoldable pub volume_lines : List ℕ
volume_lines = full_line ++ above_line

unfoldable pub report_of : List ℕ
report_of = time_lines ++ (index_lines ++ volume_lines)
