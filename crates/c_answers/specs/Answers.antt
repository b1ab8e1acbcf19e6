-- What a reader has to believe of the answers to C: which value each answer of the library becomes; a refusal is always `refused_of`.
use Rattle.std.specs.Prelude.{cond, List, [], ◌∷◌, ℕ, ◌+◌, ◌*◌, ◌%◌, ◌^◌, ℤ, Result, Ok, Err}
use Rattle.gathering_feed.specs.declared.Answer.TheVariants.{HeldAlready}
use Rattle.gathering_feed.specs.declared.Answer.TheVariants.{Taken}
use Rattle.time_fields.specs.declared.Showing.TheVariants.{Before}
use Rattle.time_fields.specs.declared.Showing.TheVariants.{On}
use Rattle.time_fields.specs.declared.Showing.TheVariants.{Ended}
use Rattle.ground_refusal.specs.Numbers.{refusal_number, refusal_place}
use Rattle.ground_refusal.specs.declared.Refusal.{Refusal}
use Rattle.ground_refusal.specs.declared.Refusal.TheVariants.{OutsideSet}
use Rattle.crc.specs.Crc.{digit}
use Rattle.time_days.specs.declared.Date.{Date}
use Rattle.time_fields.specs.declared.Showing.{Showing}
use Rattle.time_offset.specs.Offset.{is_offset}
use Rattle.time_local.specs.Clock.{unpack_of}
use Rattle.time_local.specs.declared.LocalTime.{LocalTime}
use Rattle.section_reader.specs.declared.Heading.{Heading}
use Rattle.gathering_feed.specs.declared.Answer.{Answer}
use Rattle.c_answers.specs.Packing.{packed}

-- ---- one number

-- the refusal's number in the low byte, 0 for none, and above it the 56 low bits of the place or the value
abbrev pub answer_of : ℕ → ℕ → ℕ
answer_of number above = number + 256 * (above % 2 ^ 56)

abbrev pub refused_of : Refusal → ℕ
refused_of r = answer_of (refusal_number r) (refusal_place r)

-- a value, as a day, a length or a count
abbrev pub value_answer : Result ℕ Refusal → ℕ
value_answer (Ok value) = answer_of 0 value
value_answer (Err why) = refused_of why

-- an accepted body has no value of its own
abbrev pub read_answer : Result ℕ Refusal → ℕ
read_answer (Ok end) = answer_of 0 0
read_answer (Err why) = refused_of why

-- ---- days

-- a byte for each part of a date but two for the year, which is at most 2038
unfoldable pub date_fields : Date → List (ℕ × ℕ)
date_fields d = (16, d.year) ∷ (8, d.month) ∷ (8, d.day) ∷ []

abbrev pub date_answer : Result Date Refusal → ℕ
date_answer (Ok d) = answer_of 0 (packed (date_fields d))
date_answer (Err why) = refused_of why

-- ---- times

-- a byte for each part of a local time but two for the year
unfoldable pub time_fields : LocalTime → List (ℕ × ℕ)
time_fields t =
    (16, t.year) ∷ (8, t.month) ∷ (8, t.day) ∷ (8, t.hour) ∷ (8, t.minute) ∷ (8, t.second) ∷ []

abbrev pub local_answer : Result LocalTime Refusal → ℕ
local_answer (Ok t) = answer_of 0 (packed (time_fields t))
local_answer (Err why) = refused_of why

abbrev pub showing_answer : Result Showing Refusal → ℕ
showing_answer (Ok Before) = answer_of 0 0
showing_answer (Ok On) = answer_of 0 1
showing_answer (Ok Ended) = answer_of 0 2
showing_answer (Err why) = refused_of why

-- both times of a form: two fields of 40 bits do not fit one answer, which has no value of its own then,
abbrev pub times_answer : Result (ℕ × ℕ) Refusal → ℕ
times_answer (Ok (start, end)) = answer_of 0 0
times_answer (Err why) = refused_of why

-- but stand in the two numbers that are lent, the start's first; where they are refused, these stay
abbrev pub fields_after : Result (ℕ × ℕ) Refusal → List ℕ → List ℕ
fields_after (Ok (start, end)) old = start ∷ end ∷ []
fields_after (Err why) old = old

-- ---- sections

-- a byte for each field of a heading but two for the extension
unfoldable pub heading_fields : Heading → List (ℕ × ℕ)
heading_fields h =
    (8, h.kind) ∷ (16, h.extension) ∷ (8, h.version) ∷ (8, digit h.current) ∷ (8, h.number) ∷ (8, h.last) ∷ []

abbrev pub section_answer : Result (Heading × ℕ) Refusal → ℕ
section_answer (Ok (h, n)) = answer_of 0 (packed (heading_fields h))
section_answer (Err why) = refused_of why

-- how many runs there are, and how many bytes the sections have: both are fewer than their fields allow
abbrev pub salvaged_answer : Result (ℕ × ℕ) Refusal → ℕ
salvaged_answer (Ok (bytes, runs)) = answer_of 0 (packed ((24, runs) ∷ (24, bytes) ∷ []))
salvaged_answer (Err why) = refused_of why

-- ---- the gathering

-- 0 for taken, 1 for held already
abbrev pub feed_answer : Result Answer Refusal → ℕ
feed_answer (Ok Taken) = answer_of 0 0
feed_answer (Ok HeldAlready) = answer_of 0 1
feed_answer (Err why) = refused_of why

-- ---- fields of a body

abbrev pub number_answer : Result (ℕ × ℕ) Refusal → ℕ
number_answer (Ok (x, after)) = answer_of 0 x
number_answer (Err why) = refused_of why

-- "opaque bytes as the part of the body they fill": an accepted body is shorter than either field allows
abbrev pub part_answer : Result (ℕ × ℕ) Refusal → ℕ
part_answer (Ok (start, length)) = answer_of 0 (packed ((32, start) ∷ (24, length) ∷ []))
part_answer (Err why) = refused_of why

-- "the content writer also gives the extension": a body is shorter than the field of its length allows
abbrev pub content_answer : Result (ℕ × ℕ) Refusal → ℕ
content_answer (Ok (length, extension)) = answer_of 0 (packed ((16, extension) ∷ (24, length) ∷ []))
content_answer (Err why) = refused_of why

-- the local time of a time field, or the field's refusal
abbrev pub local_or_refused : ℤ → Result (ℕ × ℕ) Refusal → ℕ
local_or_refused offset (Ok (field, after)) = local_answer (unpack_of field offset)
local_or_refused offset (Err why) = refused_of why

-- "Local from UTC adds it (order 19, 18, 20)": of a time field that was asked for, 19 for the offset, then the field's own refusal, then its local time's
unfoldable pub local_field_answer : ℤ → Result (ℕ × ℕ) Refusal → ℕ
local_field_answer offset field = cond (is_offset offset) (local_or_refused offset field) (refused_of (OutsideSet 0))
