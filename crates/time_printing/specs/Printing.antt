-- What a reader has to believe of printed times: the characters of a start and of an end, day first at an offset, and the refusals in their order.
use Rattle.std.specs.Prelude.{List, [], ◌∷◌, ℕ, ltb, eqb, ℤ, length, if◌then◌else◌, Result, Ok, Err}
use Rattle.time_local.specs.declared.LocalTime.{LocalTime}
use Rattle.ground_placing.specs.Placed.{placed}
use Rattle.ground_refusal.specs.declared.Refusal.{Refusal}
use Rattle.ground_refusal.specs.declared.Refusal.TheVariants.{OutsideSet, OutputTooSmall}
use Rattle.time_fields.specs.Field.{live_mark}
use Rattle.time_offset.specs.Offset.{is_offset}
use Rattle.time_local.specs.Clock.{unpack_of}
use Rattle.time_local.specs.Text.{text_of}

-- ---- the characters

-- "A live end prints as the word live"
unfoldable pub live_text : List ℕ
live_text = 108 ∷ 105 ∷ 118 ∷ 101 ∷ []

-- what is printed, or why nothing is
pub data Verdict : Type 0 where
  refuses : Refusal → Verdict
  prints : List ℕ → Verdict

-- "a time is also printed as day-first local text"
unfoldable pub local_text : Result LocalTime Refusal → Verdict
local_text (Ok t) = prints (text_of t)
local_text (Err r) = refuses r

-- a start at an offset: 19 (offset), then the field's own refusals, 18 before 20, then 20 for the local day, as it is unpacked
unfoldable pub start_text : ℕ → ℤ → Verdict
start_text field offset = local_text (unpack_of field offset)

-- "The live mark is tried first and only at the end field", but 19 for the offset comes before all
unfoldable pub end_text : ℕ → ℤ → Verdict
end_text field offset =
    if is_offset offset then (if eqb field live_mark then prints live_text else start_text field offset) else
    refuses (OutsideSet 0)

-- ---- a call

-- 21, after all others: an output of `room` bytes is too small
unfoldable pub fitting : ℕ → Verdict → Verdict
fitting room (refuses r) = refuses r
fitting room (prints s) = if ltb room (length s) then refuses OutputTooSmall else prints s

-- the answer: how many characters are printed, or the refusal
unfoldable pub answer_by : Verdict → Result ℕ Refusal
answer_by (refuses r) = Err r
answer_by (prints s) = Ok (length s)

-- the characters stand at the start of the output, and its bytes after them stay; a refusal "writes no byte"
unfoldable pub output_by : Verdict → List ℕ → List ℕ
output_by (refuses r) out = out
output_by (prints s) out = placed out 0 s

-- the answer for a verdict, and the output as the call leaves it
abbrev pub printed_of : Verdict → List ℕ → Result ℕ Refusal
printed_of v out = answer_by (fitting (length out) v)

abbrev pub output_of : Verdict → List ℕ → List ℕ
output_of v out = output_by (fitting (length out) v) out
