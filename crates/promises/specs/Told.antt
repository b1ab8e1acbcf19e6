-- What C takes from an answer is what went in: by what the header takes from it (c_answers' `Taking`), of everything that the library answers.
use Rattle.std.specs.Prelude.{ℕ, ◌+◌, ◌^◌, ◌≤◌, ◌<◌, ◌≡◌, true, false, List, [], ◌∷◌, length, ℤ, Result, Ok, Err}
use Rattle.gathering_feed.specs.declared.Answer.TheVariants.{Taken}
use Rattle.time_fields.specs.declared.Showing.TheVariants.{Before}
use Rattle.time_fields.specs.declared.Showing.TheVariants.{On}
use Rattle.time_fields.specs.declared.Showing.TheVariants.{Ended}
use Rattle.gathering_feed.specs.declared.Answer.TheVariants.{HeldAlready}
use Rattle.std.proofs.Math.Option.{Option}
use Rattle.ground_refusal.specs.declared.Refusal.{Refusal}
use Rattle.ground_refusal.specs.declared.Refusal.TheVariants.{OutsideSet}
use Rattle.crc.specs.Crc.{AreBytes}
use Rattle.time_days.specs.Calendar.{day_of, date_of, weekday_of}
use Rattle.time_days.specs.declared.Date.{Date}
use Rattle.time_offset.specs.Offset.{is_offset}
use Rattle.time_local.specs.Clock.{pack_of, unpack_of}
use Rattle.time_local.specs.Text.{read_text}
use Rattle.time_local.specs.declared.LocalTime.{LocalTime}
use Rattle.time_printing.specs.Printing.{start_text, end_text, printed_of}
use Rattle.section_reader.specs.Section.{read_section}
use Rattle.section_reader.specs.declared.Heading.{Heading}
use Rattle.section_cutter.specs.Cutting.{counted_of, cut_answer}
use Rattle.salvage.specs.Salvage.{salvage_of}
use Rattle.packet_writer.specs.Answers.{packed_of}
use Rattle.packet_reader.specs.Answers.{completed_of}
use Rattle.gathering_state.specs.declared.Gathering.{Gathering}
use Rattle.gathering_hand_out.specs.Handing.{handed_of}
use Rattle.gathering_pack.specs.Packing.{packing_of}
use Rattle.rooms_state.specs.State.{Network}
use Rattle.rooms_state.specs.declared.Networks.{Networks}
use Rattle.rooms_hand_out.specs.Handing as handing_rooms
use Rattle.rooms_count.specs.Counting.{held_of, free_of}
use Rattle.teaching_hand_out.specs.Asking as teaching
use Rattle.body_formats.specs.Format.{Format}
use Rattle.body_formats.specs.Answers.{number_read}
use Rattle.ground_numbers.specs.Sizes.{body_most}
use Rattle.body_formats.specs.Body.{measured, body_written, body_laid}
use Rattle.index_records.specs.Records.{body_recorded}
use Rattle.content_writer.specs.Written.{variant_written}
use Rattle.c_answers.specs.Answers.{answer_of, value_answer, date_answer, local_answer, showing_answer, times_answer, fields_after, section_answer, salvaged_answer, feed_answer, read_answer, number_answer, part_answer, content_answer, local_field_answer}
use Rattle.c_rooms_answers.specs.Answers.{ended_answer}
use Rattle.c_teaching_answers.specs.Answers.{headed_answer, lacking_answer}
use Rattle.c_answers.specs.Taking.{refusal_told, TellsRefusal, TellsValue, TellsDate, TellsTime, TellsHeading, TellsPart, TellsContent, TellsSalvaged}

-- "A refusal returns its number and a place": any refusal, as this kind of answer tells it
abbrev pub Refuses : {A : Type 0} → (A → ℕ) → (Refusal → A) → Type 0
Refuses tell refused = (r : Refusal) → TellsRefusal (tell (refused r)) r

pub record RefusalsTold : Type 0 where
  pub day : Refuses value_answer Err
  pub date : Refuses date_answer Err
  pub weekday : Refuses value_answer Err
  pub field : Refuses value_answer Err
  pub local : Refuses local_answer Err
  pub showing : Refuses showing_answer Err
  pub printed : Refuses value_answer Err
  pub typed : Refuses times_answer Err
  pub section : Refuses section_answer Err
  pub section_count_lem : Refuses value_answer Err
  pub cut : Refuses value_answer Err
  pub salvaged : Refuses salvaged_answer Err
  pub packets : Refuses value_answer Err
  pub completed : Refuses value_answer Err
  pub fed : Refuses feed_answer Err
  pub handed_out : Refuses value_answer Err
  pub network_ended : Refuses ended_answer Err
  pub rooms : Refuses value_answer Err
  pub headed : Refuses headed_answer Err
  pub lacking : Refuses lacking_answer Err
  pub read : Refuses read_answer Err
  pub written : Refuses value_answer Err
  pub content_written_lem : Refuses content_answer Err
  pub number : Refuses number_answer Err
  pub part : Refuses part_answer Err
  -- "order 19, 18, 20": of a time field that was asked for, 19 for the offset, then the field's refusal, then its local time's
  pub local_offset : (offset : ℤ) (field : Result (ℕ × ℕ) Refusal) → is_offset offset ≡ false → TellsRefusal (local_field_answer offset field) (OutsideSet 0)
  pub local_field : (offset : ℤ) → is_offset offset ≡ true → Refuses (local_field_answer offset) Err
  pub local_time : (offset : ℤ) (f after : ℕ) (r : Refusal) → is_offset offset ≡ true → unpack_of f offset ≡ Err r
      → TellsRefusal (local_field_answer offset (Ok (f, after))) r

pub record Told : Type 1 where
  pub refusals : RefusalsTold
  -- no value is taken for a refusal, whose number is never 0
  pub no_refusal : (value : ℕ) → refusal_told (answer_of 0 value) ≡ 0
  -- days and times: whatever is answered comes back
  pub day : (y m d n : ℕ) → day_of y m d ≡ Ok n → TellsValue (value_answer (Ok n)) n
  pub date : (n : ℕ) (d : Date) → date_of n ≡ Ok d → TellsDate (date_answer (Ok d)) d
  pub weekday : (n w : ℕ) → weekday_of n ≡ Ok w → TellsValue (value_answer (Ok w)) w
  pub packed : (t : LocalTime) (offset : ℤ) (f : ℕ) → pack_of t offset ≡ Ok f → TellsValue (value_answer (Ok f)) f
  pub text : (s : List ℕ) (offset : ℤ) (f : ℕ) → read_text s offset ≡ Ok f → TellsValue (value_answer (Ok f)) f
  pub local : (f : ℕ) (offset : ℤ) (t : LocalTime) → unpack_of f offset ≡ Ok t → TellsTime (local_answer (Ok t)) t
  pub local_field : (f after : ℕ) (offset : ℤ) (t : LocalTime) → unpack_of f offset ≡ Ok t → TellsTime (local_field_answer offset (Ok (f, after))) t
  pub before : TellsValue (showing_answer (Ok Before)) 0
  pub on : TellsValue (showing_answer (Ok On)) 1
  pub ended : TellsValue (showing_answer (Ok Ended)) 2
  -- how many characters were printed; two typed times are accepted with 0, and both fields stand in the numbers lent
  pub printed_start : (f : ℕ) (offset : ℤ) (out : List ℕ) (n : ℕ) → printed_of (start_text f offset) out ≡ Ok n
      → TellsValue (value_answer (Ok n)) n
  pub printed_end : (f : ℕ) (offset : ℤ) (out : List ℕ) (n : ℕ) → printed_of (end_text f offset) out ≡ Ok n
      → TellsValue (value_answer (Ok n)) n
  pub typed : (a b : ℕ) → TellsValue (times_answer (Ok (a, b))) 0
  pub typed_fields : (a b : ℕ) (old : List ℕ) → fields_after (Ok (a, b)) old ≡ a ∷ b ∷ []
  -- sections and the gathering
  pub heading : (s : List ℕ) (h : Heading) (n : ℕ) → AreBytes s → read_section s ≡ Ok (h, n) → TellsHeading (section_answer (Ok (h, n))) h
  pub section_count_lem : (bytes n : ℕ) → counted_of bytes ≡ Ok n → TellsValue (value_answer (Ok n)) n
  pub cut : (body : List ℕ) (kind extension version number : ℕ) (out : List ℕ) (n : ℕ) → cut_answer body kind extension version number out ≡ Ok n
      → TellsValue (value_answer (Ok n)) n
  pub salvaged : (capture : List ℕ) (room entries bytes runs : ℕ) → salvage_of capture room entries ≡ Ok (bytes, runs)
      → TellsSalvaged (salvaged_answer (Ok (bytes, runs))) runs bytes
  pub packets : (counter : ℕ) (section out : List ℕ) (n : ℕ) → packed_of counter section out ≡ Ok n → TellsValue (value_answer (Ok n)) n
  pub completed : (s p out : List ℕ) (n : ℕ) → completed_of s p out ≡ Ok n → TellsValue (value_answer (Ok n)) n
  pub taken : TellsValue (feed_answer (Ok Taken)) 0
  pub held_already : TellsValue (feed_answer (Ok HeldAlready)) 1
  -- a state has 256 numbers
  pub handed_out : (g : Gathering) (store out : List ℕ) (n : ℕ) → length g.held ≡ 256 → handed_of g store out ≡ Ok n → TellsValue (value_answer (Ok n)) n
  pub packed_store : (g : Gathering) (store : List ℕ) (n : ℕ) → length g.held ≡ 256 → (packing_of g store).answer ≡ Ok n → TellsValue (value_answer (Ok n)) n
  -- two networks: feeding is told as it is of one gathering; a body, 0 for an ended gathering, and how many rooms are held and free
  pub networks_handed_out : (o : Option Network) (x : Networks) (store out : List ℕ) (n : ℕ) → handing_rooms.handed_of o x store out ≡ Ok n
      → TellsValue (value_answer (Ok n)) n
  pub network_ended : TellsValue (ended_answer (Ok tt)) 0
  pub rooms_held : (x : Networks) (bytes n : ℕ) → held_of x bytes ≡ Ok n → TellsValue (value_answer (Ok n)) n
  pub rooms_free : (x : Networks) (bytes n : ℕ) → free_of x bytes ≡ Ok n → TellsValue (value_answer (Ok n)) n
  -- the slow gathering, of a buffer of bytes
  pub taught_heading : (buffer : List ℕ) (used store : ℕ) → AreBytes buffer → (t : Heading) → teaching.heading_of buffer used store ≡ Ok t
      → TellsHeading (headed_answer (Ok t)) t
  pub taught_missing : (buffer : List ℕ) (used store : ℕ) → AreBytes buffer → (n k : ℕ) → teaching.lacking_of buffer used store ≡ Ok (n, k)
      → TellsValue (lacking_answer (Ok (n, k))) n
  pub taught_out : (buffer : List ℕ) (used store : ℕ) → AreBytes buffer → (out : List ℕ) (n : ℕ) → teaching.handed_of buffer used store out ≡ Ok n
      → TellsValue (value_answer (Ok n)) n
  -- tables: 0 for an accepted body; the length of a body measured or written; so many entries or records as the tape or the list had room for
  pub accepted : (end : ℕ) → TellsValue (read_answer (Ok end)) 0
  pub measured_length : {A : Type 0} (F : Format A) (pool tape : List ℕ) (n : ℕ) → measured F pool tape ≡ Ok n → TellsValue (value_answer (Ok n)) n
  pub written : {A : Type 0} (F : Format A) (pool tape : List ℕ) (room n : ℕ) → body_written F pool tape room ≡ Ok n → TellsValue (value_answer (Ok n)) n
  pub content_written_lem : (v : ℕ) (pool tape : List ℕ) (room n extension : ℕ) → variant_written v pool tape room ≡ Ok (n, extension)
      → TellsContent (content_answer (Ok (n, extension))) extension n
  pub laid : {A : Type 0} (F : Format A) (own kind : ℕ) (body : List ℕ) (room n : ℕ) → room < 2 ^ 56 → body_laid F own kind body room ≡ Ok n
      → TellsValue (value_answer (Ok n)) n
  pub recorded : (kind : ℕ) (body : List ℕ) (room n : ℕ) → room < 2 ^ 56 → body_recorded kind body room ≡ Ok n → TellsValue (value_answer (Ok n)) n
  -- "Every field of an accepted table can be asked for": a number below 2 ^ 56, so any of seven bytes, and the widest field has five
  pub number : (x after : ℕ) → x < 2 ^ 56 → TellsValue (number_answer (Ok (x, after))) x
  pub number_read : (w : ℕ) → w ≤ 7 → (s : List ℕ) → AreBytes s → (l p x q : ℕ) → number_read w s l p ≡ Ok (x, q) → TellsValue (number_answer (Ok (x, q))) x
  -- "opaque bytes as the part of the body they fill": any part of a body that can be accepted
  pub part : (body : List ℕ) (start n : ℕ) → length body ≤ body_most → start + n ≤ length body → TellsPart (part_answer (Ok (start, n))) start n
