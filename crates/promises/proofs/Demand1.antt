-- Demand 1: a number and a place tell the refusal, and every verdict that refuses leaves what it was lent.
use Prim.Native.Nat.{ℕ, ◌≤◌, ◌<◌}
use mathlib.Core.Path.{◌≡◌, refl, ap, ap₂, ◌∙◌}
use mathlib.Core.Bool.{Bool, true, false, not}
use mathlib.Core.List.{List, [], ◌∷◌}
use mathlib.Core.Option.{Option, none, some}
use native.Mathlib.Omega.{arith}
use lib.ListN.{length, take}
use lib.Dec.{eqb}
use borrow.Author.Tests.{eqb-false}
use Rattle.std.specs.Prelude.{if◌then◌else◌, Result, Ok, Err}
use Rattle.ground_refusal.specs.Numbers.{refusal_number}
use Rattle.ground_refusal.specs.declared.Refusal.{Refusal}
use Rattle.ground_refusal.specs.declared.Refusal.TheVariants.{SectionTooShort, OtherKind, FixedBitZero, SectionLengthOutside, OtherLength, NumberAboveLast, CheckNotZero, NotCurrent, OtherHeading, StoreTooShort, Contradiction, ImpossibleState, TeachingBufferFull}
use Rattle.ground_refusal.proofs.Numbers.{number_listed, one_refusal}
use Rattle.section_reader.specs.Section.{payload_of, read_section}
use Rattle.section_cutter.specs.Cutting as cutter
use Rattle.section_reader.specs.declared.Heading.{Heading}
use Rattle.salvage.proofs.Calls.{writes_nothing as salvage_keeps}
use Rattle.packet_writer.specs.Packing as packer
use Rattle.packet_writer.specs.Answers as packed
use Rattle.packet_reader.specs.Unpacking as unpacker
use Rattle.packet_reader.specs.Answers as completed
use Rattle.packet_reader.proofs.States.{state_means}
use Rattle.time_printing.specs.Printing as printer
use Rattle.c_answers.specs.Answers.{fields_after}
use Rattle.gathering_state.specs.State.{possible_of, nothing_begun, has_room, spoiled_state}
use Rattle.gathering_state.specs.declared.Gathering.{Gathering}
use Rattle.gathering_state.proofs.State.{possible_fresh, possible_begun}
use Rattle.gathering_verdict.specs.Deciding.{verdict_of}
use Rattle.gathering_feed.specs.Feeding as feeding
use Rattle.gathering_verdict.specs.declared.Verdict.{Verdict}
use Rattle.gathering_verdict.specs.declared.Verdict.TheVariants.{Repeat, Contradict, Begin, Take}
use Rattle.gathering_feed.specs.declared.Answer.TheVariants.{HeldAlready}
use Rattle.gathering_verdict.proofs.Verdicts.{verdict_impossible, verdict_bad, verdict_good, Decided, old, other, short, begun, spoiled, new, again, clash, decided}
use Rattle.gathering_hand_out.specs.Handing.{body_held, handed_of, out_by, out_after}
use Rattle.gathering_hand_out.proofs.Handing.{body_most_lem}
use Rattle.gathering_pack.specs.Packing as packing
use Rattle.rooms_marks.proofs.Tests.{Seen, yes_is, no_is, seen}
use Rattle.rooms_state.specs.State.{Network, mine, possible_of as networks_possible}
use Rattle.rooms_state.specs.declared.Networks.{Networks}
use Rattle.rooms_feed.specs.Feeding as feeding_rooms
use Rattle.rooms_hand_out.specs.Handing as handing_rooms
use Rattle.gathering_account.specs.Account.{body_of}
use Rattle.gathering_account.specs.Answering.{answer_to}
use Rattle.teaching_rows.specs.Rows.{whole_in_use}
use Rattle.teaching_table.specs.Table.{account_in}
use Rattle.teaching_feed.specs.Feeding.{row_fits, answer_of, keeps, used_after, buffer_after}
use Rattle.teaching_hand_out.specs.Asking as teaching
use Rattle.body_formats.specs.Reading.{Reading, found, refused}
use Rattle.body_formats.specs.Format.{Format}
use Rattle.body_formats.specs.Answers.{step_of}
use Rattle.body_formats.specs.Body.{writing, written_over, body_written, output_written, laying, laid_over, body_laid, laid_tape}
use Rattle.index.specs.Index.{Index}
use Rattle.content_variant.specs.Variant.{width_of, by_width, opened}
use Rattle.content.specs.Content.{Content, content_kind, content, variant_laid, variant_tape}
use Rattle.content_writer.specs.Written.{written_of, content_written, variant_written, variant_output}
use Rattle.index_records.specs.Records.{recording, body_recorded, recorded_over, recorded}
use Rattle.index_records.specs.declared.Record.{Record}
use Rattle.promises.proofs.Places.{absurd_answer, section_refusals, answer_refusals, places}
use Rattle.promises.proofs.Told.{told}
use Rattle.promises.specs.Demand1.{Numbered, WritesNothing, OnlySpoils, Demand1}
use Rattle.promises.proofs.Lists.{given_exactly}

numbered : Numbered
numbered = record { in_the_list = number_listed; one_refusal = one_refusal }

-- ---- what refuses writes nothing

cut_keeps : (v : cutter.Verdict) (out : List ℕ) (r : Refusal) → cutter.cut_by v ≡ Err r → cutter.output_by v out ≡ out
unfolding cutter.cut_by cutter.output_by
cut_keeps (cutter.refuses r') out r e = refl
cut_keeps (cutter.writes bytes) out r e = absurd_answer (cc)

pack_keeps : (v : packer.Verdict) (out : List ℕ) (r : Refusal) → packed.packed_by v ≡ Err r → packed.output_by v out ≡ out
unfolding packed.packed_by packed.output_by
pack_keeps (packer.refuses r') out r e = refl
pack_keeps (packer.writes bytes) out r e = absurd_answer (cc)

unpack_keeps : (v : unpacker.Verdict) (out : List ℕ) (r : Refusal) → completed.answer_by v ≡ Err r → completed.output_by v out ≡ out
unfolding completed.answer_by completed.output_by
unpack_keeps (unpacker.refuses r') out r e = refl
unpack_keeps (unpacker.gives ss m) out r e = absurd_answer (cc)

unpacker_keeps : (v : unpacker.Verdict) (s left : List ℕ) (r : Refusal) → completed.StateBy v s left → completed.answer_by v ≡ Err r → left ≡ s
unfolding completed.StateBy completed.answer_by
unpacker_keeps (unpacker.refuses r') s left r by e = by
unpacker_keeps (unpacker.gives ss m) s left r by e = absurd_answer (cc)

-- what is not kept changes nothing
module _ (buffer : List ℕ) (used store : ℕ) (s : List ℕ) where
  abbrev Unchanged : Type 0
  Unchanged = (buffer_after buffer used s ≡ buffer) × (used_after buffer used s ≡ used)

  unfitting : row_fits (length buffer) used (length s) ≡ false → Unchanged
  unfolding buffer_after used_after keeps
  unfitting e = (rw e, rw e)

  unwhole : row_fits (length buffer) used (length s) ≡ true → whole_in_use buffer used ≡ false → Unchanged
  unfolding buffer_after used_after keeps
  unwhole f e = (rw (f, e), rw (f, e))

  -- a refusal above 11 is the buffer's: 37, or 12
  taught_keeps : (r : Refusal) → 11 < refusal_number r → answer_of buffer used store s ≡ Err r → Unchanged
  unfolding answer_of
  taught_keeps r h e = go (row_fits (length buffer) used (length s)) refl (whole_in_use buffer used) refl e
    where
      go : (f : Bool) → row_fits (length buffer) used (length s) ≡ f → (w : Bool) → whole_in_use buffer used ≡ w
          → (if not f then Err TeachingBufferFull else
          if not w then Err ImpossibleState else answer_to (has_room store) (account_in store (take used buffer)) s) ≡ Err r → Unchanged
      go false f w g e = unfitting f
      go true f false g e = unwhole f g
      go true f true g e =
          let low = answer_refusals (λ q. refusal_number q ≤ 11) (omega arith) (omega arith) (omega arith) (omega arith) (omega arith) (omega arith) (omega arith)
          (omega arith) (omega arith) (omega arith) (omega arith) (has_room store) s (account_in store (take used buffer)) r e in
          absurd (omega arith)

printed_keeps : (v : printer.Verdict) (out : List ℕ) (r : Refusal) → printer.answer_by v ≡ Err r → printer.output_by v out ≡ out
unfolding printer.answer_by printer.output_by
printed_keeps (printer.refuses r') out r e = refl
printed_keeps (printer.prints s) out r e = absurd_answer (cc)

typed_keeps : (a : Result (ℕ × ℕ) Refusal) (fields : List ℕ) (r : Refusal) → a ≡ Err r → fields_after a fields ≡ fields
typed_keeps (Err r') fields r e = refl
typed_keeps (Ok (x, y)) fields r e = absurd_answer (cc)

handed_keeps : (body out : List ℕ) (h : Result ℕ Refusal) (r : Refusal) → h ≡ Err r → out_by body out h ≡ out
unfolding out_by
handed_keeps body out (Err r') r e = refl
handed_keeps body out (Ok n) r e = absurd_answer (cc)

packing_keeps : (g : Gathering) (h : Result ℕ Refusal) (r : Refusal) → h ≡ Err r → packing.state_by g h ≡ g
unfolding packing.state_by
packing_keeps g (Err r') r e = refl
packing_keeps g (Ok n) r e = absurd_answer (cc)

written_keeps : {A : Type 0} (F : Format A) (out : List ℕ) (x : Reading A) (r : Refusal) → step_of x ≡ Err r → written_over F out x ≡ out
written_keeps F out (refused r') r e = refl
written_keeps F out (found a n) r e = absurd_answer (cc)

content_keeps : (w : ℕ) (out : List ℕ) (x : Reading Content) (r : Refusal) → written_of x ≡ Err r → written_over (content w) out x ≡ out
content_keeps w out (refused r') r e = refl
content_keeps w out (found a n) r e = absurd_answer (cc)

-- of a variant, which is refused or has its width
variant_keeps : (pool tape out : List ℕ) (x : Result ℕ Refusal) (r : Refusal) → by_width x (λ w. content_written w pool tape (length out)) Err ≡ Err r
    → by_width x (λ w. output_written (content w) pool tape out) (λ u. out) ≡ out
unfolding content_written output_written
variant_keeps pool tape out (Ok w) r e = content_keeps w out (writing (content w) pool tape (length out)) r e
variant_keeps pool tape out (Err u) r e = refl

laid_keeps : {A : Type 0} (F : Format A) (tape : List ℕ) (x : Reading A) (r : Refusal) → step_of x ≡ Err r → laid_over F tape x ≡ tape
laid_keeps F tape (refused r') r e = refl
laid_keeps F tape (found a n) r e = absurd_answer (cc)

variant_laid_keeps : (kind : ℕ) (body tape : List ℕ) (x : Result ℕ Refusal) (r : Refusal)
    → by_width x (λ w. body_laid (content w) content_kind kind body (length tape)) Err ≡ Err r
    → by_width x (λ w. laid_tape (content w) content_kind kind body tape) (λ u. tape) ≡ tape
unfolding body_laid laid_tape
variant_laid_keeps kind body tape (Ok w) r e = laid_keeps (content w) tape (laying (content w) content_kind kind body (length tape)) r e
variant_laid_keeps kind body tape (Err u) r e = refl

recorded_keeps : (list : List Record) (x : Reading Index) (r : Refusal) → step_of x ≡ Err r → recorded_over list x ≡ list
recorded_keeps list (refused r') r e = refl
recorded_keeps list (found t n) r e = absurd_answer (cc)

fed_keeps : (store payload : List ℕ) (v : Result Verdict Refusal) (r : Refusal) → feeding.answer_by v ≡ Err r → feeding.store_by store payload v ≡ store
unfolding feeding.answer_by feeding.store_by
fed_keeps store payload (Err r') r e = refl
fed_keeps store payload (Ok Repeat) r e = refl
fed_keeps store payload (Ok Contradict) r e = refl
fed_keeps store payload (Ok (Begin h)) r e = absurd_answer (cc)
fed_keeps store payload (Ok (Take h)) r e = absurd_answer (cc)

-- two networks: by the verdict with its room, and where the state is not possible nothing is looked at
roomed_keeps : (store payload : List ℕ) (room : ℕ) (v : Result Verdict Refusal) (r : Refusal) → feeding.answer_by v ≡ Err r
    → feeding_rooms.store_by store payload room v ≡ store
unfolding feeding.answer_by feeding_rooms.store_by
roomed_keeps store payload room (Err r') r e = refl
roomed_keeps store payload room (Ok Repeat) r e = refl
roomed_keeps store payload room (Ok Contradict) r e = refl
roomed_keeps store payload room (Ok (Begin h)) r e = absurd_answer (cc)
roomed_keeps store payload room (Ok (Take h)) r e = absurd_answer (cc)

networks_feed_keeps : (o : Option Network) (x : Networks) (store s : List ℕ) (r : Refusal) → (feeding_rooms.fed_of o x store s).answer ≡ Err r
    → feeding_rooms.store_after o x store s ≡ store
unfolding feeding_rooms.fed_of feeding_rooms.store_after feeding_rooms.fed_for feeding_rooms.store_for feeding_rooms.part_fed feeding_rooms.part_store
networks_feed_keeps none x store s r e = refl
networks_feed_keeps (some i) x store s r e = go (seen (networks_possible x (length store)))
  where
    go : Seen (networks_possible x (length store)) → feeding_rooms.store_after (some i) x store s ≡ store
    go (yes_is ok) = rw ok (roomed_keeps store (payload_of s) _ _ r (rw ok at e))
    go (no_is bad) = rw bad

networks_hand_keeps : (o : Option Network) (x : Networks) (store out : List ℕ) (r : Refusal) → handing_rooms.handed_of o x store out ≡ Err r
    → handing_rooms.out_after o x store out ≡ out
unfolding handing_rooms.handed_of handing_rooms.out_after handing_rooms.handed_for handing_rooms.out_for handing_rooms.part_out
networks_hand_keeps none x store out r e = refl
networks_hand_keeps (some i) x store out r e = go (seen (networks_possible x (length store)))
  where
    go : Seen (networks_possible x (length store)) → handing_rooms.out_after (some i) x store out ≡ out
    go (yes_is ok) = rw ok (handed_keeps (handing_rooms.body_in (mine i x) store) out (handing_rooms.part_handed (mine i x) store out) r (rw ok at e))
    go (no_is bad) = rw bad

writes_nothing : WritesNothing
unfolding feeding.fed_of feeding.store_after handed_of out_after teaching.out_after body_written variant_written variant_output variant_laid variant_tape output_written body_laid laid_tape body_recorded recorded packing.packing_of packing.store_packed
writes_nothing =
    record {
      cutter = λ body kind extension version number out. cut_keeps (cutter.cutting body kind extension version number (length out)) out;
      salvage = salvage_keeps;
      packer = λ counter section out. pack_keeps (packer.packing (length out) counter section) out;
      unpacker = λ s p out r l e.
          (unpack_keeps (completed.verdict_for s p out) out r e, unpacker_keeps (completed.verdict_for s p out) s _ r (state_means s p out l) e);
      printers = λ v out. printed_keeps (printer.fitting (length out) v) out;
      typing = typed_keeps;
      feed = λ g store s. fed_keeps store (payload_of s) (verdict_of g store s);
      hand_out = λ g store out. handed_keeps (body_held g store) out (handed_of g store out);
      teaching_full = λ buffer used store s. taught_keeps buffer used store s TeachingBufferFull (omega arith);
      teaching_impossible = λ buffer used store s. taught_keeps buffer used store s ImpossibleState (omega arith);
      teaching_hand_out = λ buffer used store out. handed_keeps (body_of (account_in store (take used buffer))) out (teaching.handed_of buffer used store out);
      pack = λ g store. handed_keeps (body_held g store) store (packing.packed_of g store);
      networks_feed = networks_feed_keeps;
      networks_hand_out = networks_hand_keeps;
      writers = λ F pool tape out. written_keeps F out (writing F pool tape (length out));
      content_writer = λ v pool tape out. variant_keeps pool tape out (width_of v);
      content_layer = λ kind v body tape. variant_laid_keeps kind body tape (opened kind v (length body));
      layers = λ F own kind body tape. laid_keeps F tape (laying F own kind body (length tape));
      records = λ kind body list. recorded_keeps list (recording kind body (length list));
    }

-- ---- the gathering that is spoiled

state_keeps : (g : Gathering) (payload : List ℕ) (v : Result Verdict Refusal) (r : Refusal) → feeding.answer_by v ≡ Err r → (r ≡ Contradiction → ⊥) → feeding.state_by g payload v ≡ g
unfolding feeding.answer_by feeding.state_by
state_keeps g payload (Err r') r e n = refl
state_keeps g payload (Ok Repeat) r e n = refl
state_keeps g payload (Ok Contradict) r e n = absurd (n (cc))
state_keeps g payload (Ok (Begin h)) r e n = absurd_answer (cc)
state_keeps g payload (Ok (Take h)) r e n = absurd_answer (cc)

repeat_keeps : (g : Gathering) (store payload : List ℕ) (v : Result Verdict Refusal) → feeding.answer_by v ≡ Ok HeldAlready
    → (feeding.state_by g payload v ≡ g) × (feeding.store_by store payload v ≡ store)
unfolding feeding.answer_by feeding.state_by feeding.store_by
repeat_keeps g store payload (Err r) e = absurd_answer (cc)
repeat_keeps g store payload (Ok Repeat) e = (refl, refl)
repeat_keeps g store payload (Ok Contradict) e = absurd_answer (cc)
repeat_keeps g store payload (Ok (Begin h)) e = absurd_answer (cc)
repeat_keeps g store payload (Ok (Take h)) e = absurd_answer (cc)

-- a state that is spoiled already stays as it is
spoiled_stays : (g : Gathering) → possible_of g ≡ true → (g.spoiled ≡ 0 → ⊥) → g ≡ spoiled_state g
unfolding spoiled_state
spoiled_stays g p n = go (nothing_begun g) refl
  where
    most : (b : Bool) → nothing_begun g ≡ b → g.spoiled ≤ 1
    most true e = let f = (possible_fresh g p e).spoiled in omega arith
    most false e = (possible_begun g p e).of_table.spoiled

    same : g.spoiled ≡ 1 → g ≡ spoiled_state g
    same e =
        λ i. record { bytes = g.bytes; missing = g.missing; extension = g.extension; kind = g.kind; version = g.version; last = g.last; spoiled = e i; held = g.held }

    go : (b : Bool) → nothing_begun g ≡ b → g ≡ spoiled_state g
    go b e = let m = most b e in same (omega (arith, n, m))

-- the other refusals have other numbers
differs : (r : Refusal) → eqb (refusal_number r) 11 ≡ false → r ≡ Contradiction → ⊥
differs r n e = eqb-false (refusal_number r) 11 n (ap refusal_number e)

-- a section is never refused for a contradiction
section_not : (s : List ℕ) → read_section s ≡ Err Contradiction → ⊥
section_not s e =
    section_refusals (λ r. r ≡ Contradiction → ⊥) (differs SectionTooShort refl) (differs OtherKind refl) (differs FixedBitZero refl)
    (differs SectionLengthOutside refl) (differs OtherLength refl) (differs NumberAboveLast refl) (differs CheckNotZero refl) s Contradiction e refl

module _ (g : Gathering) (store s : List ℕ) where
  -- a verdict that is answered with 11 leaves the spoiled state
  abbrev Spoils : Result Verdict Refusal → Type 0
  Spoils v = feeding.answer_by v ≡ Err Contradiction → feeding.state_by g (payload_of s) v ≡ spoiled_state g

  refuses_other : (r : Refusal) → (r ≡ Contradiction → ⊥) → Spoils (Err r)
  unfolding feeding.answer_by
  refuses_other r n e = absurd (n (cc))

  good_spoils : possible_of g ≡ true → (h : Heading) {v : Result Verdict Refusal} → Decided g store h (payload_of s) v → Spoils v
  unfolding feeding.answer_by feeding.state_by
  good_spoils p h (old c) e = refuses_other NotCurrent (differs NotCurrent refl) e
  good_spoils p h (other c b a) e = refuses_other OtherHeading (differs OtherHeading refl) e
  good_spoils p h (short c b r) e = refuses_other StoreTooShort (differs StoreTooShort refl) e
  good_spoils p h (begun c b r) e = absurd_answer (cc)
  good_spoils p h (spoiled c b a r z) e = spoiled_stays g p z
  good_spoils p h (new d z) e = absurd_answer (cc)
  good_spoils p h (again d z q) e = absurd_answer (cc)
  good_spoils p h (clash d z q) e = refl

  verdict_spoils : Spoils (verdict_of g store s)
  verdict_spoils = go (possible_of g) refl (read_section s) refl
    where
      go : (b : Bool) → possible_of g ≡ b → (x : Result (Heading × ℕ) Refusal) → read_section s ≡ x → Spoils (verdict_of g store s)
      go false p x e = rw (verdict_impossible g store s p) (refuses_other ImpossibleState (differs ImpossibleState refl))
      go true p (Err r) e = rw (verdict_bad g store s p r e) (refuses_other r (λ z. section_not s (e ∙ ap Err z)))
      go true p (Ok (h, n)) e = rw (verdict_good g store s p h n e) (good_spoils p h (decided g store h (payload_of s)))

only_spoils : OnlySpoils
unfolding feeding.fed_of feeding.store_after packing.packing_of
only_spoils =
    record {
      state_stays = λ g store s. state_keeps g (payload_of s) (verdict_of g store s);
      spoiled = verdict_spoils;
      packing_stays = λ g store. packing_keeps g (packing.packed_of g store);
      repeat_stays = λ g store s. repeat_keeps g store (payload_of s) (verdict_of g store s);
    }

-- ---- the demand

pub demand1 : Demand1
demand1 =
    record {
      numbered = numbered;
      given_exactly = given_exactly;
      places = places;
      told = told;
      joined_most = λ g store l p. body_most_lem g store (omega arith) p;
      writes_nothing = writes_nothing;
      only_spoils = only_spoils;
    }
