-- Demand 1, sentence by sentence: nothing faults, each refusal has one number, and a refused call writes nothing.
use Rattle.std.specs.Prelude.{ℕ, ◌*◌, ◌≤◌, ◌≡◌, true, List, length, Result, Ok, Err}
use Rattle.std.proofs.Math.Option.{Option}
use Rattle.ground_numbers.specs.Sizes.{payload_most}
use Rattle.ground_refusal.specs.Numbers.{refusal_number, is_number, refusal_place}
use Rattle.ground_refusal.specs.declared.Refusal.{Refusal}
use Rattle.ground_refusal.specs.declared.Refusal.TheVariants.{Contradiction, ImpossibleState, TeachingBufferFull}
use Rattle.section_cutter.specs.Cutting.{cut_answer, cut_output}
use Rattle.salvage.specs.Salvage.{salvage_of, output_after, list_after}
use Rattle.packet_writer.specs.Answers.{packed_of, packets_over}
use Rattle.packet_memory.specs.State.{state_bytes}
use Rattle.packet_reader.specs.Answers.{completed_of, sections_over, state_after}
use Rattle.time_printing.specs.Printing.{Verdict, printed_of, output_of}
use Rattle.c_answers.specs.Answers.{fields_after}
use Rattle.gathering_state.specs.State.{possible_of, spoiled_state}
use Rattle.gathering_state.specs.declared.Gathering.{Gathering}
use Rattle.gathering_feed.specs.Feeding.{fed_of, store_after}
use Rattle.gathering_feed.specs.declared.Answer.TheVariants.{HeldAlready}
use Rattle.gathering_hand_out.specs.Handing.{body_held, handed_of, out_after}
use Rattle.gathering_pack.specs.Packing.{packing_of, store_packed}
use Rattle.rooms_state.specs.State.{Network}
use Rattle.rooms_state.specs.declared.Networks.{Networks}
use Rattle.rooms_feed.specs.Feeding as feeding_rooms
use Rattle.rooms_hand_out.specs.Handing as handing_rooms
use Rattle.teaching_feed.specs.Feeding.{answer_of, used_after, buffer_after}
use Rattle.teaching_hand_out.specs.Asking as teaching
use Rattle.body_formats.specs.Format.{Format}
use Rattle.body_formats.specs.Body.{body_written, output_written, body_laid, laid_tape}
use Rattle.content.specs.Content.{variant_laid, variant_tape}
use Rattle.content_writer.specs.Written.{variant_written, variant_output}
use Rattle.index_records.specs.Records.{body_recorded, recorded}
use Rattle.index_records.specs.declared.Record.{Record}
use Rattle.promises.specs.Lists.{GivenExactly}
use Rattle.promises.specs.Places.{Places}
use Rattle.promises.specs.Told.{Told}

-- "Every input of every length is taken without a fault, and every call finishes." This is the language's to say, and no theorem: a function
-- is built only once it is proved that it never indexes past an end, wraps a sum, loses bits or divides by 0, and that it ends. No offered
-- function has a `requires` (tools/offered sees to it), so this holds of every input.

-- "Each refusal has one number of document 01's list [..]"
pub record Numbered : Type 0 where
  pub in_the_list : (r : Refusal) → is_number (refusal_number r) ≡ true
  -- a number and a place say which refusal it is
  pub one_refusal : (r r' : Refusal) → refusal_number r ≡ refusal_number r' → refusal_place r ≡ refusal_place r' → r ≡ r'

-- "[..] given exactly when the list says": for sections, the gathering, two networks, the cutter, salvaging, packets, local times and text `Lists` states it, list by list. For
-- bodies and writers the order is that of the fields, and the list is the definition that the answer is equal to (`Offered`): `reading` and the
-- tables' formats, for content `variant_read`; `writing`, for content `variant_written`. So it is for days and instants, which have 18 to 20 alone: `day_of`, `date_of`, `showing`;
-- and for printed times (`start_text`, `end_text`, then 21) and both times of a form (`typed_times`).

-- "[..] and a refused call writes nothing": whatever the refusal r, the output, the store, the tape and the list of records or runs are left as they were
pub record WritesNothing : Type 1 where
  pub cutter : (body : List ℕ) (kind extension version number : ℕ) (out : List ℕ) (r : Refusal)
      → cut_answer body kind extension version number out ≡ Err r → cut_output body kind extension version number out ≡ out
  pub salvage : (capture out list : List ℕ) (r : Refusal) → salvage_of capture (length out) (length list) ≡ Err r
      → (output_after capture out list ≡ out) × (list_after capture out list ≡ list)
  pub packer : (counter : ℕ) (section out : List ℕ) (r : Refusal) → packed_of counter section out ≡ Err r → packets_over counter section out ≡ out
  -- "A refused packet changes nothing, not even the counter"
  pub unpacker : (s p out : List ℕ) (r : Refusal) → length s ≡ state_bytes → completed_of s p out ≡ Err r
      → (sections_over s p out ≡ out) × (state_after s p out ≡ s)
  -- of a start and of an end, `start_text` and `end_text`; and of both times of a form, the numbers lent for their fields
  pub printers : (v : Verdict) (out : List ℕ) (r : Refusal) → printed_of v out ≡ Err r → output_of v out ≡ out
  pub typing : (a : Result (ℕ × ℕ) Refusal) (fields : List ℕ) (r : Refusal) → a ≡ Err r → fields_after a fields ≡ fields
  pub feed : (g : Gathering) (store s : List ℕ) (r : Refusal) → (fed_of g store s).answer ≡ Err r → store_after g store s ≡ store
  pub hand_out : (g : Gathering) (store out : List ℕ) (r : Refusal) → handed_of g store out ≡ Err r → out_after g store out ≡ out
  pub pack : (g : Gathering) (store : List ℕ) (r : Refusal) → (packing_of g store).answer ≡ Err r → store_packed g store ≡ store
  pub networks_feed : (o : Option Network) (x : Networks) (store s : List ℕ) (r : Refusal) → (feeding_rooms.fed_of o x store s).answer ≡ Err r
      → feeding_rooms.store_after o x store s ≡ store
  pub networks_hand_out : (o : Option Network) (x : Networks) (store out : List ℕ) (r : Refusal) → handing_rooms.handed_of o x store out ≡ Err r
      → handing_rooms.out_after o x store out ≡ out
  -- M-112: "one answered 37 is not kept", nor is one answered 12; with any other answer the slow gathering keeps the string
  pub teaching_full : (buffer : List ℕ) (used store : ℕ) (s : List ℕ) → answer_of buffer used store s ≡ Err TeachingBufferFull
      → (buffer_after buffer used s ≡ buffer) × (used_after buffer used s ≡ used)
  pub teaching_impossible : (buffer : List ℕ) (used store : ℕ) (s : List ℕ) → answer_of buffer used store s ≡ Err ImpossibleState
      → (buffer_after buffer used s ≡ buffer) × (used_after buffer used s ≡ used)
  pub teaching_hand_out : (buffer : List ℕ) (used store : ℕ) (out : List ℕ) (r : Refusal) → teaching.handed_of buffer used store out ≡ Err r
      → teaching.out_after buffer used store out ≡ out
  -- once for every format, so for every table
  pub writers : {A : Type 0} (F : Format A) (pool tape out : List ℕ) (r : Refusal) → body_written F pool tape (length out) ≡ Err r → output_written F pool tape out ≡ out
  -- and of the content table, whatever the variant
  pub content_writer : (v : ℕ) (pool tape out : List ℕ) (r : Refusal) → variant_written v pool tape (length out) ≡ Err r → variant_output v pool tape out ≡ out
  pub content_layer : (kind v : ℕ) (body tape : List ℕ) (r : Refusal) → variant_laid kind v body (length tape) ≡ Err r → variant_tape kind v body tape ≡ tape
  pub layers : {A : Type 0} (F : Format A) (own kind : ℕ) (body tape : List ℕ) (r : Refusal)
      → body_laid F own kind body (length tape) ≡ Err r → laid_tape F own kind body tape ≡ tape
  pub records : (kind : ℕ) (body : List ℕ) (list : List Record) (r : Refusal) → body_recorded kind body (length list) ≡ Err r → recorded kind body list ≡ list

-- "one exception: a contradicting section spoils the gathering": no other refusal changes the state, and this one changes nothing else in it
pub record OnlySpoils : Type 0 where
  pub state_stays : (g : Gathering) (store s : List ℕ) (r : Refusal) → (fed_of g store s).answer ≡ Err r → (r ≡ Contradiction → ⊥) → (fed_of g store s).state ≡ g
  pub spoiled : (g : Gathering) (store s : List ℕ) → (fed_of g store s).answer ≡ Err Contradiction → (fed_of g store s).state ≡ spoiled_state g
  -- a refused packing never changes it
  pub packing_stays : (g : Gathering) (store : List ℕ) (r : Refusal) → (packing_of g store).answer ≡ Err r → (packing_of g store).state ≡ g
  -- "A repeat with the same payload is answered "held already" and changes nothing"
  pub repeat_stays : (g : Gathering) (store s : List ℕ) → (fed_of g store s).answer ≡ (Ok HeldAlready) → ((fed_of g store s).state ≡ g) × (store_after g store s ≡ store)

pub record Demand1 : Type 1 where
  pub numbered : Numbered
  pub given_exactly : GivenExactly
  -- "A refusal returns its number and a place"
  pub places : Places
  -- and C is told it, with its place, or the value in full
  pub told : Told
  pub writes_nothing : WritesNothing
  -- no possible state, which has 256 numbers, joins to more than 256 × 4,084 bytes, whatever the store holds: no refusal is needed for a longer body
  pub joined_most : (g : Gathering) (store : List ℕ) → length g.held ≡ 256 → possible_of g ≡ true → length (body_held g store) ≤ 256 * payload_most
  pub only_spoils : OnlySpoils
