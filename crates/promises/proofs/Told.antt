-- What C is told comes back: every value that is answered fits the bits that it is told in, and c_answers' laws say the rest.
use Prim.Native.Nat.{ℕ, ◌+◌, ◌*◌, ◌^◌, ◌≤◌, ◌<◌}
use Rattle.ground_refusal.proofs.Exits.{ok_pair_inj}
use Rattle.time_fields.specs.declared.Moment.{Moment}
use mathlib.Core.Path.{◌≡◌, refl, sym, ap, ap₂, ◌∙◌}
use mathlib.Core.Bool.{Bool, true, false}
use mathlib.Core.List.{List}
use mathlib.Core.Option.{Option, none, some}
use native.Mathlib.Omega.{arith}
use native.Mathlib.Nat.{pow-le-pow_right, lt_of_lt_of_le}
use lib.ListN.{length, length-take}
use lib.Dec.{leb, ltb, eqb}
use lib.IntN.{ℤ}
use borrow.Author.Tests.{leb-true}
use Rattle.std.specs.Prelude.{if◌then◌else◌, Result, Ok, Err}
use Rattle.ground_refusal.specs.declared.Refusal.{Refusal}
use Rattle.ground_refusal.specs.declared.Refusal.TheVariants.{OutsideSet, OutputTooSmall}
use Rattle.crc_register.proofs.Laws.{crc_lt}
use Rattle.crc.specs.Crc.{AreBytes, crc16_bits}
use Rattle.time_days.specs.Calendar.{day_of}
use Rattle.time_days.proofs.Answers.{weekday_accepted}
use Rattle.time_days.proofs.Theorems.{date_of_day, day_within, date_within, DateWithin}
use Rattle.time_fields.specs.Field.{live_mark, read_time}
use Rattle.time_fields.proofs.Reading.{accepted_only}
use Rattle.time_offset.specs.Offset.{is_offset}
use Rattle.time_local.specs.Clock.{is_clock, packed_at, pack_of, unpacked_at, unpack_of}
use Rattle.time_local.specs.declared.LocalTime.{LocalTime}
use Rattle.time_local.specs.Text.{text_of}
use Rattle.time_printing.specs.Printing as printer
use Rattle.time_local.proofs.Clocks.{ClockWithin, clock_within, no_day, on_day_lem, pack_by, unpack_by}
use Rattle.time_local.proofs.RoundTrip.{unpack_packed, pack_unpacked}
use Rattle.time_local.proofs.Characters.{text_accepted}
use Rattle.section_reader.specs.Section.{read_section}
use Rattle.section_reader.specs.declared.Heading.{Heading}
use Rattle.section_reader.proofs.Printing.{printed_length}
use Rattle.section_reader.proofs.RoundTrip.{good_printed}
use Rattle.section_cutter.specs.Cutting.{counted_of, part_carried, section_of, Verdict, refuses, writes, cutting, cut_by, cut_answer}
use Rattle.section_cutter.proofs.Counting.{counted_some, count_most, part_length}
use Rattle.section_cutter.proofs.Sections.{cut_written}
use Rattle.gathering_state.specs.State.{lengths}
use Rattle.gathering_state.specs.declared.Gathering.{Gathering}
use Rattle.gathering_state.proofs.Lists.{greatest_take, total_most}
use Rattle.gathering_state.proofs.State.{possible_short}
use Rattle.gathering_hand_out.specs.Handing.{handed_if_room, handed_by, handed_of}
use Rattle.gathering_hand_out.proofs.Joining.{joined_most}
use Rattle.gathering_hand_out.proofs.Handing.{handed_whole, body_most_lem}
use Rattle.gathering_pack.specs.Packing.{packing_of}
use Rattle.gathering_pack.proofs.Packing.{packed_whole}
use Rattle.std.specs.Prelude.{if◌then◌else◌}
use Rattle.rooms_marks.proofs.Tests.{Seen, yes_is, no_is, seen}
use Rattle.rooms_state.specs.State.{rooms_in, room_at, possible_of, Network, mine}
use Rattle.rooms_state.specs.declared.Part.{Part}
use Rattle.rooms_state.specs.declared.Networks.{Networks}
use Rattle.rooms_state.proofs.Facts.{PartIs, networks_are, sound_of}
use Rattle.rooms_hand_out.specs.Handing as handing_rooms
use Rattle.rooms_count.specs.Counting.{held, free, held_of, free_of}
use Rattle.rooms_count.proofs.Counting.{held_plus_free}
use Rattle.body_formats.specs.Reading.{Reading, found, refused}
use Rattle.body_formats.specs.Format.{Format, count}
use Rattle.body_formats.specs.Answers.{step_of, number_of, number_read}
use Rattle.ground_numbers.specs.Sizes.{body_most}
use Rattle.body_formats.specs.Body.{reading, measured, writing, body_written, laying, body_laid}
use Rattle.body_formats.proofs.Outcomes.{found_inj, and_then_found, need_found, within_found}
use Rattle.body_formats.proofs.Leaves.{number_below}
use Rattle.body_formats.proofs.RoundTrips.{measured_value, written_measured}
use Rattle.index.specs.Index.{Index, index_kind, index}
use Rattle.index_records.specs.Records.{recording, body_recorded}
use Rattle.body_extension.specs.Extension.{extension_of}
use Rattle.content_variant.specs.Variant.{width_of, by_width}
use Rattle.content.specs.Content.{Content, content}
use Rattle.content_writer.specs.Written.{written_of, content_written, variant_written}
use Rattle.salvage.specs.Salvage.{salvage_of}
use Rattle.salvage.proofs.Standing.{sections_most, runs_most}
use Rattle.salvage.proofs.Calls.{answered}
use Rattle.packet_frames.specs.Framing.{joined}
use Rattle.packet_writer.specs.Answers.{packed_of}
use Rattle.packet_reader.specs.Unpacking as unpacker
use Rattle.packet_reader.specs.Answers.{answer_by, verdict_for, completed_of}
use Rattle.packet_arrival.proofs.Most.{packs_most, gives_most}
use Rattle.teaching_hand_out.specs.Asking as teaching
use Rattle.teaching_account.proofs.Bounds.{heading_formed, missing_most, taught_most}
use Rattle.c_teaching_answers.specs.Answers.{headed_answer}
use Rattle.c_answers.specs.Answers.{answer_of, local_answer, section_answer, content_answer, local_field_answer, salvaged_answer, value_answer}
use Rattle.c_answers.specs.Taking.{TellsValue, TellsTime, TellsHeading, TellsContent, TellsSalvaged}
use Rattle.c_answers.proofs.Taking.{refusal_told_lem, value_told, date_told, time_told, heading_told, part_told, content_told, salvaged_told}
use Rattle.promises.specs.Told.{RefusalsTold, Told}

no_field : {A : Type 0} (r : Refusal) (f : ℕ) → Err r ≡ Ok f → A
no_field r f e = let z : ◌≡◌ {A = ℕ} 0 1 = cc in absurd (omega arith)

-- ---- times

record TimeWithin (t : LocalTime) : Type 0 where
  date : DateWithin (record { year = t.year; month = t.month; day = t.day })
  clock : ClockWithin t

time_within : (t : LocalTime) (offset : ℤ) (f : ℕ) → pack_of t offset ≡ Ok f → TimeWithin t
unfolding packed_at
time_within t offset f e = by (is_offset offset) refl (day_of t.year t.month t.day) refl (is_clock t) refl
  where
    by : (b : Bool) → is_offset offset ≡ b → (a : Result ℕ Refusal) → day_of t.year t.month t.day ≡ a → (c : Bool) → is_clock t ≡ c → TimeWithin t
    by true o (Ok n) d true c =
        record { date = date_within n _ (date_of_day t.year t.month t.day n d); clock = clock_within t c }
    by true o (Ok n) d false c = no_field _ f (sym (ap (packed_at offset) (on_day_lem t d c)) ∙ sym (pack_by t offset o) ∙ e)
    by true o (Err r) d c i = no_field r f (sym (ap (packed_at offset) (no_day t d)) ∙ sym (pack_by t offset o) ∙ e)
    by false o a d c i = no_field _ f (sym (pack_by t offset o) ∙ e)

no_time : {A : Type 0} (r : Refusal) (t : LocalTime) → Err r ≡ Ok t → A
no_time r t e = let z : ◌≡◌ {A = ℕ} 0 1 = cc in absurd (omega arith)

-- what is unpacked is a field of 40 bits, at an offset
record Unpacks (f : ℕ) (offset : ℤ) : Type 0 where
  offset_is : is_offset offset ≡ true
  fits : f < 2 ^ 40

unpacks : (f : ℕ) (offset : ℤ) (t : LocalTime) → unpack_of f offset ≡ Ok t → Unpacks f offset
unfolding unpacked_at
unpacks f offset t e = by (is_offset offset) refl (read_time f 0) refl
  where
    by : (b : Bool) → is_offset offset ≡ b → (x : Result Moment Refusal) → read_time f 0 ≡ x → Unpacks f offset
    by true o (Ok m) r = record { offset_is = o; fits = (accepted_only f 0 r).fits }
    by true o (Err why) r = no_time why t (sym (ap (unpacked_at offset) r) ∙ sym (unpack_by f offset o) ∙ e)
    by false o x r = no_time _ t (sym (unpack_by f offset o) ∙ e)

field_told : (t : LocalTime) (offset : ℤ) (f : ℕ) → pack_of t offset ≡ Ok f → TellsValue (answer_of 0 f) f
field_told t offset f e = let u = unpacks f offset t (unpack_packed t offset f e) in value_told f (omega arith)

local_told : (f : ℕ) (offset : ℤ) (t : LocalTime) → unpack_of f offset ≡ Ok t → TellsTime (local_answer (Ok t)) t
local_told f offset t e = let w = time_within t offset f (pack_unpacked t offset f e) in time_told t w.date w.clock

local_field_told : (f after : ℕ) (offset : ℤ) (t : LocalTime) → unpack_of f offset ≡ Ok t → TellsTime (local_field_answer offset (Ok (f, after))) t
unfolding local_field_answer
local_field_told f after offset t e = rw ((unpacks f offset t e).offset_is, e) (local_told f offset t e)

-- ---- printed times

-- at most 19 characters are printed
characters_told : (s : List ℕ) → length s ≤ 19 → (room n : ℕ)
    → printer.answer_by (printer.fitting room (printer.prints s)) ≡ Ok n → TellsValue (answer_of 0 n) n
unfolding printer.answer_by printer.fitting
characters_told s m room n e = by (ltb room (length s)) e
  where
    by : (b : Bool) → printer.answer_by (if b then printer.refuses OutputTooSmall else printer.prints s) ≡ Ok n → TellsValue (answer_of 0 n) n
    by true e = absurd (let z : ◌≡◌ {A = ℕ} 0 1 = cc in omega arith)
    by false e = let k : length s ≡ n = cc in value_told n (omega arith)

not_characters : {A : Type 0} (r : Refusal) (room n : ℕ) → printer.answer_by (printer.fitting room (printer.refuses r)) ≡ Ok n → A
unfolding printer.answer_by printer.fitting
not_characters r room n e = absurd (let z : ◌≡◌ {A = ℕ} 0 1 = cc in omega arith)

local_printed : (u : Result LocalTime Refusal) (room n : ℕ)
    → printer.answer_by (printer.fitting room (printer.local_text u)) ≡ Ok n → TellsValue (answer_of 0 n) n
unfolding printer.local_text text_of
local_printed (Ok t) room n e = characters_told (text_of t) (let l : length (text_of t) ≡ 19 = refl in omega arith) room n e
local_printed (Err r) room n e = not_characters r room n e

start_printed : (f : ℕ) (offset : ℤ) (room n : ℕ)
    → printer.answer_by (printer.fitting room (printer.start_text f offset)) ≡ Ok n → TellsValue (answer_of 0 n) n
unfolding printer.start_text
start_printed f offset room n e = local_printed (unpack_of f offset) room n e

end_printed : (f : ℕ) (offset : ℤ) (room n : ℕ)
    → printer.answer_by (printer.fitting room (printer.end_text f offset)) ≡ Ok n → TellsValue (answer_of 0 n) n
unfolding printer.end_text printer.live_text
end_printed f offset room n e = by (is_offset offset) (eqb f live_mark) e
  where
    by : (a b : Bool)
        → printer.answer_by (printer.fitting room
        (if a then (if b then printer.prints printer.live_text else printer.start_text f offset) else printer.refuses (OutsideSet 0)))
        ≡ Ok n → TellsValue (answer_of 0 n) n
    by true true e = characters_told printer.live_text (omega arith) room n e
    by true false e = start_printed f offset room n e
    by false b e = not_characters (OutsideSet 0) room n e

-- ---- sections and the gathering

heading_back : (s : List ℕ) (h : Heading) (n : ℕ) → AreBytes s → read_section s ≡ Ok (h, n) → TellsHeading (section_answer (Ok (h, n))) h
heading_back s h n b e = heading_told h (good_printed s h n b e).formed

count_told : (bytes n : ℕ) → counted_of bytes ≡ Ok n → TellsValue (answer_of 0 n) n
count_told bytes n e =
    let c = counted_some bytes n e in
    let m = count_most bytes c.2 in
    value_told n (rw c.0 (omega arith))

cut_told : (body : List ℕ) (kind extension version number : ℕ) (out : List ℕ) (n : ℕ) → cut_answer body kind extension version number out ≡ Ok n
    → TellsValue (answer_of 0 n) n
unfolding cut_by section_of
cut_told body kind extension version number out n e = go (cutting body kind extension version number (length out)) refl e
  where
    go : (v : Verdict) → cutting body kind extension version number (length out) ≡ v → cut_by v ≡ Ok n → TellsValue (answer_of 0 n) n
    go (refuses r) f e = let z : ◌≡◌ {A = ℕ} 0 1 = cc in absurd (omega arith)
    go (writes s) f e =
        let long = ap length (cut_written body kind extension version number (length out) s f).1 ∙ printed_length _ (part_carried body number) in
        let short = part_length body number in
        let z : length s ≡ n = cc in
        value_told n (omega arith)

salvaged_back : (capture : List ℕ) (room entries bytes runs : ℕ) → salvage_of capture room entries ≡ Ok (bytes, runs)
    → TellsSalvaged (salvaged_answer (Ok (bytes, runs))) runs bytes
salvaged_back capture room entries bytes runs e =
    let a = answered capture room entries bytes runs e in
    salvaged_told runs bytes (omega (arith, runs_most capture, a.runs_are, a.short)) (omega (arith, sections_most capture, a.bytes_are, a.short))

packets_back : (counter : ℕ) (section out : List ℕ) (n : ℕ) → packed_of counter section out ≡ Ok n → TellsValue (value_answer (Ok n)) n
packets_back counter section out n e = value_told n (omega (arith, (packs_most counter section out n e).1))

completed_back : (s p out : List ℕ) (n : ℕ) → completed_of s p out ≡ Ok n → TellsValue (value_answer (Ok n)) n
unfolding answer_by
completed_back s p out n e = go (verdict_for s p out) refl e
  where
    go : (v : unpacker.Verdict) → verdict_for s p out ≡ v → answer_by v ≡ Ok n → TellsValue (value_answer (Ok n)) n
    go (unpacker.refuses r) q x = absurd (let z : ◌≡◌ {A = ℕ} 0 1 = cc in omega arith)
    go (unpacker.gives ss m) q x =
        let b = (gives_most (length out) s p ss m q).1 in
        let k : length (joined ss) ≡ n = cc in
        value_told n (omega arith)

handed_told : (g : Gathering) (store out : List ℕ) (n : ℕ) → length g.held ≡ 256 → handed_of g store out ≡ Ok n → TellsValue (answer_of 0 n) n
handed_told g store out n l e =
    let whole = handed_whole g store out n e in
    let most = body_most_lem g store (omega arith) whole.0.possible in
    value_told n (omega arith)

-- two networks: a body out of its rooms is no longer than one of 256 numbers, and there are 512 rooms at most
rooms_body_most : (n : ℕ) (p : Part) (store : List ℕ) → PartIs n p → length (handing_rooms.body_in p store) ≤ 256 * 4084
unfolding handing_rooms.body_in lengths
rooms_body_most n p store x =
    let long = x.held_long in
    let few = length-take (p.gathering.last + 1) p.gathering.held in
    let taken = greatest_take (p.gathering.last + 1) p.gathering.held in
    let short = possible_short p.gathering x.possible in
    let joins = joined_most (room_at p.rooms) store 0 (lengths p.gathering) in
    let most = total_most (lengths p.gathering) (omega arith) in
    omega arith

handed_length : (c : Result Unit Refusal) (bytes room n : ℕ) → handed_by c bytes room ≡ Ok n → bytes ≡ n
unfolding handed_by handed_if_room
handed_length (Err r) bytes room n e = absurd (let z : ◌≡◌ {A = ℕ} 0 1 = cc in omega arith)
handed_length (Ok tt) bytes room n e = go (ltb room bytes) e
  where
    go : (b : Bool) → (if b then Err OutputTooSmall else Ok bytes) ≡ Ok n → bytes ≡ n
    go true f = absurd (let z : ◌≡◌ {A = ℕ} 0 1 = cc in omega arith)
    go false f = cc

networks_handed : (o : Option Network) (x : Networks) (store out : List ℕ) (n : ℕ) → handing_rooms.handed_of o x store out ≡ Ok n → TellsValue (answer_of 0 n) n
unfolding handing_rooms.handed_of handing_rooms.handed_for handing_rooms.part_handed
networks_handed none x store out n e = absurd (let z : ◌≡◌ {A = ℕ} 0 1 = cc in omega arith)
networks_handed (some i) x store out n e = go (seen (possible_of x (length store)))
  where
    go : Seen (possible_of x (length store)) → TellsValue (answer_of 0 n) n
    go (yes_is ok) =
        let most = rooms_body_most _ (mine i x) store (sound_of i x (networks_are x (length store) ok)).own in
        let same = handed_length _ _ _ n (rw ok at e) in
        value_told n (omega arith)
    go (no_is bad) = let f = rw bad at e in let z : ◌≡◌ {A = ℕ} 0 1 = cc in absurd (omega arith)

rooms_few : (x : Networks) (bytes : ℕ) → possible_of x bytes ≡ true → (held x ≤ 512) × (free x bytes ≤ 512)
unfolding rooms_in
rooms_few x bytes ok = let h = held_plus_free x bytes ok in (omega arith, omega arith)

held_back : (x : Networks) (bytes n : ℕ) → held_of x bytes ≡ Ok n → TellsValue (answer_of 0 n) n
unfolding held_of
held_back x bytes n e = go (seen (possible_of x bytes))
  where
    go : Seen (possible_of x bytes) → TellsValue (answer_of 0 n) n
    go (yes_is ok) = let f = rw ok at e in let k : held x ≡ n = cc in let few = (rooms_few x bytes ok).0 in value_told n (omega arith)
    go (no_is bad) = let f = rw bad at e in let z : ◌≡◌ {A = ℕ} 0 1 = cc in absurd (omega arith)

free_back : (x : Networks) (bytes n : ℕ) → free_of x bytes ≡ Ok n → TellsValue (answer_of 0 n) n
unfolding free_of
free_back x bytes n e = go (seen (possible_of x bytes))
  where
    go : Seen (possible_of x bytes) → TellsValue (answer_of 0 n) n
    go (yes_is ok) = let f = rw ok at e in let k : free x bytes ≡ n = cc in let few = (rooms_few x bytes ok).1 in value_told n (omega arith)
    go (no_is bad) = let f = rw bad at e in let z : ◌≡◌ {A = ℕ} 0 1 = cc in absurd (omega arith)

packed_told : (g : Gathering) (store : List ℕ) (n : ℕ) → length g.held ≡ 256 → (packing_of g store).answer ≡ Ok n → TellsValue (answer_of 0 n) n
packed_told g store n l e =
    let whole = packed_whole g store n e in
    let most = body_most_lem g store (omega arith) whole.0.possible in
    value_told n (omega arith)

-- ---- the slow gathering

module _ (buffer : List ℕ) (used store : ℕ) (are_bytes : AreBytes buffer) where
  taught_heading : (t : Heading) → teaching.heading_of buffer used store ≡ Ok t → TellsHeading (headed_answer (Ok t)) t
  taught_heading t e = heading_told t (heading_formed buffer used store are_bytes t e)

  taught_missing : (n k : ℕ) → teaching.lacking_of buffer used store ≡ Ok (n, k) → TellsValue (answer_of 0 n) n
  taught_missing n k e = value_told n (omega (arith, missing_most buffer used store are_bytes n k e))

  taught_out : (out : List ℕ) (n : ℕ) → teaching.handed_of buffer used store out ≡ Ok n → TellsValue (answer_of 0 n) n
  taught_out out n e = value_told n (omega (arith, taught_most buffer used store are_bytes out n e))

-- ---- tables

-- a step that answers where a reading ends
found_of : {A : Type 0} (x : Reading A) (n : ℕ) → step_of x ≡ Ok n → (a : A) × (x ≡ found a n)
found_of (found a q) n e = let z : q ≡ n = cc in (a, ap (found a) z)
found_of (refused r) n e = let z : ◌≡◌ {A = ℕ} 0 1 = cc in absurd (omega arith)

number_of_lem : (x : Reading ℕ) (v q : ℕ) → number_of x ≡ Ok (v, q) → x ≡ found v q
number_of_lem (found a r) v q e = let i = ok_pair_inj e in ap₂ found i.0 i.1
number_of_lem (refused r) v q e = let z : ◌≡◌ {A = ℕ} 0 1 = cc in absurd (omega arith)

number_back : (w : ℕ) → w ≤ 7 → (s : List ℕ) → AreBytes s → (l p x q : ℕ) → number_read w s l p ≡ Ok (x, q) → TellsValue (answer_of 0 x) x
unfolding number_read count
number_back w h s b l p x q e =
    let f = within_found s l p (p + w) _ x q (number_of_lem _ x q e) in
    let m = lt_of_lt_of_le (number_below s p w b.byte) (pow-le-pow_right {n = 256} (omega arith) h) in
    value_told x (rw (← (found_inj f.2).0) m)

-- a body that is written is no longer than the longest
written_most : {A : Type 0} (F : Format A) (pool tape : List ℕ) (room : ℕ) (a : A) (n : ℕ) → writing F pool tape room ≡ found a n → n ≤ body_most
written_most F pool tape room a n e = (measured_value F pool tape a n (written_measured F pool tape room a n e).0).4

-- no more entries are laid than the tape has, and no more records than the list
laid_most : {A : Type 0} (F : Format A) (own kind : ℕ) (body : List ℕ) (room : ℕ) (a : A) (n : ℕ) → laying F own kind body room ≡ found a n → n ≤ room
unfolding laying
laid_most F own kind body room a n e =
    let i = and_then_found (reading F own kind body) _ a n e in
    let t = need_found (leb (length (F.tape i.0 0)) room) OutputTooSmall _ a n i.3 in
    let m = leb-true (length (F.tape i.0 0)) room t.0 in
    let q = (found_inj t.1).1 in
    omega arith

recorded_most : (kind : ℕ) (body : List ℕ) (room : ℕ) (t : Index) (n : ℕ) → recording kind body room ≡ found t n → n ≤ room
unfolding recording
recorded_most kind body room t n e =
    let i = and_then_found (reading index index_kind kind body) _ t n e in
    let u = need_found (leb (length i.0.messages) room) OutputTooSmall _ t n i.3 in
    let m = leb-true (length i.0.messages) room u.0 in
    let q = (found_inj u.1).1 in
    omega arith

extension_fits : (ds : List ℕ) → extension_of ds < 2 ^ 16
unfolding extension_of crc16_bits
extension_fits ds = crc_lt 16 _ _ _

content_back : (v : ℕ) (pool tape : List ℕ) (room n extension : ℕ) → variant_written v pool tape room ≡ Ok (n, extension)
    → TellsContent (content_answer (Ok (n, extension))) extension n
unfolding variant_written content_written
content_back v pool tape room n extension e = by_width_lem (width_of v) e
  where
    of_width : (w : ℕ) (x : Reading Content) → writing (content w) pool tape room ≡ x → written_of x ≡ Ok (n, extension)
        → TellsContent (content_answer (Ok (n, extension))) extension n
    of_width w (found c q) f e =
        let i = ok_pair_inj e in
        content_told extension n (rw (← i.1) (extension_fits c.identifier)) (rw (← i.0) (written_most (content w) pool tape room c q f))
    of_width w (refused r) f e = let z : ◌≡◌ {A = ℕ} 0 1 = cc in absurd (omega arith)

    by_width_lem : (x : Result ℕ Refusal) → by_width x (λ w. written_of (writing (content w) pool tape room)) Err ≡ Ok (n, extension)
        → TellsContent (content_answer (Ok (n, extension))) extension n
    by_width_lem (Ok w) e = of_width w (writing (content w) pool tape room) refl e
    by_width_lem (Err r) e = let z : ◌≡◌ {A = ℕ} 0 1 = cc in absurd (omega arith)

-- ---- refusals

refusals_told : RefusalsTold
unfolding local_field_answer
refusals_told =
    record {
      day = refusal_told_lem;
      date = refusal_told_lem;
      weekday = refusal_told_lem;
      field = refusal_told_lem;
      local = refusal_told_lem;
      showing = refusal_told_lem;
      printed = refusal_told_lem;
      typed = refusal_told_lem;
      section = refusal_told_lem;
      section_count_lem = refusal_told_lem;
      cut = refusal_told_lem;
      salvaged = refusal_told_lem;
      packets = refusal_told_lem;
      completed = refusal_told_lem;
      fed = refusal_told_lem;
      handed_out = refusal_told_lem;
      network_ended = refusal_told_lem;
      rooms = refusal_told_lem;
      headed = refusal_told_lem;
      lacking = refusal_told_lem;
      read = refusal_told_lem;
      written = refusal_told_lem;
      content_written_lem = refusal_told_lem;
      number = refusal_told_lem;
      part = refusal_told_lem;
      local_offset = λ offset field o. rw o (refusal_told_lem (OutsideSet 0));
      local_field = λ offset o r. rw o (refusal_told_lem r);
      local_time = λ offset f after r o e. rw (o, e) (refusal_told_lem r);
    }

-- ---- the statement

pub told : Told
unfolding measured body_written body_laid body_recorded
told =
    record {
      refusals = refusals_told;
      no_refusal = λ value. omega arith;
      day = λ y m d n e. let w = day_within y m d n e in value_told n (omega arith);
      date = λ n d e. date_told d (date_within n d e);
      weekday = λ n w e. let a = weekday_accepted n w e in value_told w (omega arith);
      packed = field_told;
      text = λ s offset f e. let a = text_accepted s offset f e in field_told a.time offset f a.packs;
      local = local_told;
      local_field = local_field_told;
      before = value_told 0 (omega arith);
      on = value_told 1 (omega arith);
      ended = value_told 2 (omega arith);
      printed_start = λ f offset out. start_printed f offset (length out);
      printed_end = λ f offset out. end_printed f offset (length out);
      typed = λ a b. value_told 0 (omega arith);
      typed_fields = λ a b old. refl;
      heading = heading_back;
      section_count_lem = count_told;
      cut = cut_told;
      salvaged = salvaged_back;
      packets = packets_back;
      completed = completed_back;
      taken = value_told 0 (omega arith);
      held_already = value_told 1 (omega arith);
      handed_out = handed_told;
      packed_store = packed_told;
      networks_handed_out = networks_handed;
      network_ended = value_told 0 (omega arith);
      rooms_held = held_back;
      rooms_free = free_back;
      taught_heading = taught_heading;
      taught_missing = taught_missing;
      taught_out = taught_out;
      accepted = λ end. value_told 0 (omega arith);
      measured_length = λ F pool tape n e. let x = found_of _ n e in let m = (measured_value F pool tape x.0 n x.1).4 in value_told n (omega arith);
      written = λ F pool tape room n e. let x = found_of _ n e in let m = written_most F pool tape room x.0 n x.1 in value_told n (omega arith);
      content_written_lem = content_back;
      laid = λ F own kind body room n l e. let x = found_of _ n e in let m = laid_most F own kind body room x.0 n x.1 in value_told n (omega arith);
      recorded = λ kind body room n l e. let x = found_of _ n e in let m = recorded_most kind body room x.0 n x.1 in value_told n (omega arith);
      number = λ x after. value_told x;
      number_read = number_back;
      part = λ body start n l m. part_told start n (omega arith);
    }
