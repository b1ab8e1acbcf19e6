-- What a reader has to believe of the road from the paper form to the screen: the form, the writers, packets, the gathering, and what is then shown.
use Rattle.std.specs.Prelude.{ℕ, suc, ◌+◌, ◌≤◌, Bool, ◌≡◌, ℤ, length, take, if◌then◌else◌, Result, Ok, Err}
use Rattle.ground_refusal.specs.declared.Refusal.{Refusal}
use mathlib.Core.List.{List, [], ◌∷◌, Memᴰ as In}
use Rattle.crc.specs.Crc.{AreBytes}
use Rattle.time_printing.specs.Printing.{live_text, Verdict, refuses, prints, start_text, end_text}
use Rattle.time_printing.specs.Typing.{typed_times}
use Rattle.section_cutter.specs.Cutting.{cut_heading, section_of, Askable}
use Rattle.packet_memory.specs.Memory.{Memory, fresh}
use Rattle.packet_reader.specs.Unpacking.{gives, unpacking_all}
use Rattle.packet_writer.specs.Packing.{packed_all}
use Rattle.packet_arrival.specs.Packed.{AllGood}
use Rattle.gathering_state.specs.State.{has_room}
use Rattle.gathering_account.specs.Gathers.{Box, fresh_box, ByteStrings, box_after, handing, handed_output}
use Rattle.gathering_account.specs.Arrival.{Arrives}
use Rattle.body_formats.specs.Reading.{found}
use Rattle.body_formats.specs.Body.{writing, output_written, body_read}
use Rattle.index.specs.Index.{Message, Index, index_kind, index}
use Rattle.index_fields.specs.Asked.{message_part, start, end, extension}
use Rattle.index_fields.specs.Agreement.{FieldsAsked, IndexAsked}
use Rattle.content_variant.specs.Variant.{width_of}
use Rattle.content.specs.Content.{Content, content_kind, content, variant_read}
use Rattle.content_fields.specs.Agreement.{ContentAsked}
use Rattle.content_writer.specs.Written.{variant_written, variant_output}

-- ---- the form

-- the times of one message on the form: the characters of its start, and those of its end, or that the end is live
pub record FormTimes : Type 0 where
  pub start : List ℕ
  pub live : Bool
  pub end : List ℕ

-- the form's times are accepted at the offset, message by message: they are read as the fields of the table's messages.
-- "Both times must lie in range as typed and after the offset is taken off": read_text refuses with 20 where one does not.
abbrev pub AllTyped : ℤ → List FormTimes → List Message → Type 0
AllTyped offset [] [] = Unit {0}
AllTyped offset [] (m ∷ ms) = ⊥
AllTyped offset (x ∷ xs) [] = ⊥
AllTyped offset (x ∷ xs) (m ∷ ms) = (typed_times x.start x.live x.end offset ≡ Ok (m.start, m.end)) × AllTyped offset xs ms

-- "fields that the writers accept": the pool and the tape lay out the table t, with the times as they were typed; the index writer
-- answers a length, and that many bytes at the start of its output are the body
pub record IndexWritten (offset : ℤ) (times : List FormTimes) (t : Index) (body : List ℕ) : Type 0 where
  pub typed : AllTyped offset times t.messages
  pub pool : List ℕ
  pub tape : List ℕ
  pub out : List ℕ
  pub filled : writing index pool tape (length out) ≡ found t (length body)
  pub body_is : body ≡ take (length body) (output_written index pool tape out)
  pub bytes : AreBytes body

-- so it is with the content table t in the variant v, whose auxiliary files have lengths of w bytes; its writer also gives the extension
pub record ContentWritten (v w : ℕ) (t : Content) (given : ℕ) (body : List ℕ) : Type 0 where
  pub variant : Ok w ≡ width_of v
  pub pool : List ℕ
  pub tape : List ℕ
  pub out : List ℕ
  pub filled : writing (content w) pool tape (length out) ≡ found t (length body)
  pub answered : variant_written v pool tape (length out) ≡ Ok (length body, given)
  pub body_is : body ≡ take (length body) (variant_output v pool tape out)
  pub bytes : AreBytes body

-- ---- the way

-- the sections of all tables, in any order, go into packets, each from the counter after the last packet's, and a fresh unpacker is given
-- these packets: "no packet lost or damaged"
pub record OverPackets (sent got : List (List ℕ)) : Type 0 where
  pub good : AllGood sent
  pub bytes : ByteStrings sent
  pub counter : ℕ
  pub low : counter ≤ 15
  pub room : ℕ
  pub enough : 4096 ≤ room
  pub after : Memory
  pub unpacked : unpacking_all room fresh (packed_all counter sent) ≡ gives got after

-- a body is cut with this kind, extension and version, and a gathering is fed of what the unpacker gave: any of it, in any order, with
-- repeats and with other tables' sections between. "a fresh gathering with enough room", "no foreign section that is fed first, has the
-- same heading or is ahead of ours" is what `Arrives` asks for, of our own cutter's sections.
pub record Gathered (body : List ℕ) (kind extension version : ℕ) (got : List (List ℕ)) (store : List ℕ) (fed : List (List ℕ)) : Type 0 where
  pub cut : Askable (length body) kind extension version 0
  pub received : (s : List ℕ) → In s fed → In s got
  pub arrives : Arrives (has_room (length store)) (cut_heading (length body) kind extension version 0) (section_of body kind extension version) fed

-- the whole way of a body: over packets with whatever else is sent, into a gathering, and out into an output with room for it
pub record Road (body : List ℕ) (kind extension version : ℕ) : Type 0 where
  pub sent : List (List ℕ)
  pub got : List (List ℕ)
  pub over_packets : OverPackets sent got
  pub store : List ℕ
  pub fed : List (List ℕ)
  pub gathered : Gathered body kind extension version got store fed
  pub out : List ℕ
  pub roomy : length body ≤ length out

-- the box at its end, and the bytes that it hands out: as many as its answer says, at the start of the output; none if it refuses
abbrev pub box_of : {body : List ℕ} {kind extension version : ℕ} → Road body kind extension version → Box
box_of r = box_after (fresh_box r.store) r.fed

unfoldable pub bytes_by : Result ℕ Refusal → List ℕ → List ℕ
bytes_by (Ok n) left = take n left
bytes_by (Err r) left = []

abbrev pub handed_bytes : {body : List ℕ} {kind extension version : ℕ} → Road body kind extension version → List ℕ
handed_bytes r = bytes_by (handing (box_of r) r.out) (handed_output (box_of r) r.out)

-- ---- the screen

-- a time that is asked for of a body, printed
unfoldable pub shown : (ℕ → ℤ → Verdict) → ℤ → Result (ℕ × ℕ) Refusal → Verdict
shown text offset (Ok (field, q)) = text field offset
shown text offset (Err r) = refuses r

-- "A live end prints as the word live", any other as it was typed
unfoldable pub end_shown : FormTimes → List ℕ
end_shown x = if x.live then live_text else x.end

-- message number i of the body s: "The printed day-first local times are the characters typed"
pub record MessageShown (s : List ℕ) (offset : ℤ) (i : ℕ) (x : FormTimes) : Type 0 where
  pub at : ℕ
  pub size : ℕ
  pub part : message_part s i ≡ Ok (at, size)
  pub start_shown : shown start_text offset (start s at size) ≡ prints x.start
  pub end_shown_lem : shown end_text offset (end s at size) ≡ prints (end_shown x)

-- those from number i on
abbrev pub AllShown : List ℕ → ℤ → ℕ → List FormTimes → Type 0
AllShown s offset i [] = Unit {0}
AllShown s offset i (x ∷ xs) = MessageShown s offset i x × AllShown s offset (suc i) xs

-- the body s is accepted, its times print as they were typed, "and every other field is the one filled in"
pub record IndexShown (offset : ℤ) (times : List FormTimes) (t : Index) (s : List ℕ) : Type 0 where
  pub accepted : body_read index index_kind index_kind s ≡ Ok (length s)
  pub times_shown : AllShown s offset 0 times
  pub fields_asked : IndexAsked s t

-- the body s of a content table, in the variant v and with this extension
pub record ContentShown (v w : ℕ) (t : Content) (given : ℕ) (s : List ℕ) : Type 0 where
  pub accepted : variant_read content_kind v given s ≡ Ok (length s)
  pub fields_asked : ContentAsked w s t

-- the message m stands in the body s of an index, and what is asked there for its extension is this one
pub record FoundBy (s : List ℕ) (m : Message) (given : ℕ) : Type 0 where
  pub number : ℕ
  pub at : ℕ
  pub size : ℕ
  pub part : message_part s number ≡ Ok (at, size)
  pub fields : FieldsAsked s at size m
  pub extension_is : extension s at size ≡ Ok (given, at + 18)
