-- The fields asked for of an accepted body are its table's: of the body, of its messages, and of the descriptors and streams in their parts.
use Prim.Native.Nat.{ℕ, zero, suc, ◌+◌, ◌-◌, ◌*◌, ◌≤◌, ◌<◌}
use Rattle.std.specs.Prelude.{Ok}
use mathlib.Core.Path.{◌≡◌, refl, sym, ap, subst, ◌∙◌}
use mathlib.Core.List.{List, []}
use mathlib.Core.Bool.{Bool, true, false, ◌&&◌}
use native.Mathlib.Omega.{arith}
use native.Mathlib.Nat.{add-zero, add-sub_cancel_left, le_refl}
use lib.ListN.{length, get_or}
use lib.Dec.{ltb, leb}
use borrow.Author.Tests.{le-leb, lt-leb, lt-ltb, le-ltb}
use Rattle.ground_choices.proofs.Tests.{and_of}
use Rattle.ground_refusal.specs.declared.Refusal.TheVariants.{LeftOver, PastPart, OutsideSet}
use Rattle.body_formats.specs.Reading.{Reading, found, refused, need}
use Rattle.body_formats.specs.Format.{Format, Length, count, number, nibbles_among, bytes_among, reserved, Under, under, ◌▷◌, list_of, many, opaque, rest, length_of, length12, counted, repeat}
use Rattle.body_formats.specs.Time.{time, end_time}
use Rattle.body_formats.specs.Body.{reading}
use Rattle.body_formats.specs.Answers.{number_of, part_of, number_read, part_listed, thing_listed}
use Rattle.body_formats.proofs.Classes.{Bytes, Filling}
use Rattle.body_formats.proofs.Elements.{exact_found, view_found, followed_found, list_found}
use Rattle.body_formats.proofs.RoundTrips as trips
use Rattle.body_formats.specs.Resource.{resource_pairs, resource_bytes, resource}
use Rattle.body_formats.specs.Identifier.{identifier_bytes, identifier}
use Rattle.body_formats.proofs.Strings.{digits_many, digits_bytes}
use Rattle.body_formats.proofs.Identifiers.{identifier_sized, identifier_bytes_lem, identifier_many}
use Rattle.body_asking.specs.Asking.{in_body, field_in, in_part}
use Rattle.body_asking.specs.Agreement.{NoNumberThere}
use Rattle.body_asking.proofs.Sizes.{Sized, count_sized, number_sized, number_inside, time_sized, end_sized, nibbles_among_sized, bytes_are, bytes_sized, reserved_sized, digits_sized, next, repeat_sized, nth_sized}
use Rattle.body_asking.proofs.Answers.{asked}
use Rattle.body_asking.proofs.Entries.{after_all, all_same}
use Rattle.body_asking.proofs.Parts.{length_sized, length12_sized, part_holds, part_after_lem, bytes_hold, digit_there, digit_past, depending_found}
use Rattle.body_asking.proofs.Turns.{ReadAt, read_in_turn, holds_in_turn, opaque_fills_at, follows_length}
use Rattle.body_extension.specs.Extension.{extension_at}
use Rattle.index.specs.Index.{Descriptor, descriptor, descriptors, Stream, stream_fields, stream, streams, Channel, ChannelFields, channel_fields, channel, flagged, Message, HeadFields, MessageFields, head, message_fields, named, unnamed, message, Index, fields, index, index_kind}
use Rattle.index.specs.Places.{network_place, start_place, end_place, type_place, class_place, resource_count_place, resources_place, channel_stream_place, channel_program_place, pcr_pid_place, channel_descriptors_place, stream_pid_place, stream_descriptors_place}
use Rattle.index_fields.specs.Asked.{message_count, message_part, signature_part, identifier_part, identifier_digit, extension, network, start, end, type_part, class, level, resource_count, resource_at, resource_part, resource_digit, flag_at, flag, channel_at, channel_network, channel_stream, channel_program, pcr_pid, descriptors_part, streams_part}
use Rattle.index_stream_fields.specs.Asked.{first_byte, descriptor_tag, descriptor_part, stream_type, stream_pid, stream_descriptors, count_of, descriptor_count, stream_count}
use Rattle.index_fields.specs.Agreement.{DescriptorAsked, NoDescriptor, DescriptorsAsked, StreamAsked, StreamsAsked, NoStream, ChannelAsked, NoChannel, UnderFlag, FieldsAsked, NoMessage, MessageAsked, IndexAsked}
use Rattle.index.proofs.Lawful.{all_descriptors_filling, all_streams_filling, inner_filling, index_filling}

-- ---- descriptors and streams, told by where they begin and how many bytes their part has from there on

module _ (s : List ℕ) (at n : ℕ) where
  no_descriptor : (ltb 0 n && leb (at + n) (length s)) ≡ false → NoDescriptor s at n
  unfolding first_byte descriptor_tag descriptor_part
  no_descriptor t = record { no_tag = rw t; no_bytes = rw t }

  no_stream : (ltb 0 n && leb (at + n) (length s)) ≡ false → NoStream s at n
  unfolding first_byte stream_type stream_pid stream_descriptors
  no_stream t = record { no_type = rw t; no_pid = rw t; no_descriptors = rw t }

  past_end : n ≤ 0 → (ltb 0 n && leb (at + n) (length s)) ≡ false
  past_end h = rw (le-ltb 0 n h)

  past_body : length s < at + n → (ltb 0 n && leb (at + n) (length s)) ≡ false
  past_body h = rw (lt-leb (at + n) (length s) h) (go (ltb 0 n))
    where
      go : (t : Bool) → (t && false) ≡ false
      go true = refl
      go false = refl

-- in a part that ends at l both begin with a byte, so what is asked there is read in the part
in_its_part : {A : Type 0} (s : List ℕ) (l p v : ℕ) → l ≤ length s → (number 1).parse s l p ≡ found v (p + 1) → (k : ℕ → Reading A) → in_part s p (l - p) k ≡ k l
in_its_part s l p v inside e k =
    let more = number_inside 1 s l p v (p + 1) e in
    let ends : p + (l - p) ≡ l = omega (arith, more) in
    let t = and_of (lt-ltb 0 (l - p) (omega (arith, more))) (le-leb (p + (l - p)) (length s) (omega (arith, ends, inside))) in
    rw t (ap k ends)

module _ (s : List ℕ) (b : Bytes s) (l : ℕ) (inside : l ≤ length s) (p q : ℕ) where
  descriptor_fields : (x : ℕ × List ℕ) → (number 1 ▷ opaque 1).parse s l p ≡ found x q → DescriptorAsked s l (record { tag = x.0; bytes = x.1 }) p q
  unfolding first_byte descriptor_tag descriptor_part
  descriptor_fields x e =
      let f = next (number 1) (opaque 1) 1 (number_sized 1) s l p (p + 1) x q refl e in
      let g = opaque_fills_at s b l inside 1 (p + 1) (p + 2) (omega arith) x.1 q f.1 in
      record {
        tag_is = ap number_of (in_its_part s l p x.0 inside f.0 (λ m. (number 1).parse s m p) ∙ f.0);
        bytes_fill = rw (in_its_part s l p x.0 inside f.0 (λ m. (opaque 1).parse s m (p + 1))) g.0;
        ends = g.1;
      }

  descriptor_asked : (d : Descriptor) → descriptor.parse s l p ≡ found d q → DescriptorAsked s l d p q
  unfolding descriptor
  descriptor_asked d e =
      let v = view_found _ _ (number 1 ▷ opaque 1) s l p d q e in
      subst (λ (y : Descriptor). DescriptorAsked s l y p q) v.2 (descriptor_fields v.0 v.1)

-- as many things are counted in a part as are read in it
all_counted : {A : Type 0} (L : Length) (k : ℕ) → Sized L.field k → (F : Format A) → Filling (many F) → (s : List ℕ) → Bytes s
    → (l p at : ℕ) → at ≡ p + k → (xs : List A) (q : ℕ) → (counted L (many F)).parse s l p ≡ found xs q
    → number_of (count_of (in_body s at (q - at) (λ m. (many F).parse s m at))) ≡ Ok (length xs, q)
all_counted L k z F f s b l p at from xs q e =
    let h = part_holds L (many F) f s b l p xs q e in
    let begins : h.at ≡ at = part_after_lem L k z (many F) f s b l p xs q e ∙ sym from in
    let ends : at + (q - at) ≡ q = omega (arith, begins, h.ends) in
    let inner : (many F).parse s q at ≡ found xs q = ap ((many F).parse s q) (sym begins) ∙ h.inner in
    ap (λ (m : ℕ). number_of (count_of (need (leb m (length s)) (OutsideSet 0) ((many F).parse s m at)))) ends ∙ rw (le-leb q (length s) h.in_body_lem, inner)

-- the descriptors after their 12-bit length at p
descriptors_asked : (s : List ℕ) → Bytes s → (l p at : ℕ) → at ≡ p + 2 → (ds : List Descriptor) (q : ℕ) → descriptors.parse s l p ≡ found ds q
    → DescriptorsAsked s (part_of ((counted length12 rest).parse s l p)) at ds q
unfolding descriptors descriptor_count
descriptors_asked s b l p at from ds q e =
    record {
      in_turn = holds_in_turn length12 2 length12_sized descriptor all_descriptors_filling s b l p at from ds q e (DescriptorAsked s q)
          (λ inside d a r h. descriptor_asked s b q inside a r d h);
      counted = all_counted length12 2 length12_sized descriptor all_descriptors_filling s b l p at from ds q e;
    }

-- they end where as many bytes do
descriptors_end : (s : List ℕ) → Bytes s → (l p : ℕ) (ds : List Descriptor) (q : ℕ) → descriptors.parse s l p ≡ found ds q
    → (xs : List ℕ) × ((counted length12 rest).parse s l p ≡ found xs q)
unfolding descriptors
descriptors_end s b l p ds q e = bytes_hold length12 (many descriptor) all_descriptors_filling s b l p ds q e

module _ (s : List ℕ) (b : Bytes s) (l : ℕ) (inside : l ≤ length s) (p q : ℕ) where
  stream_fields_lem : (x : ℕ × (ℕ × List Descriptor)) → stream_fields.parse s l p ≡ found x q
      → StreamAsked s l (record { type = x.0; pid = x.1.0; descriptors = x.1.1 }) p q
  unfolding stream_fields first_byte stream_type stream_pid stream_descriptors
  stream_fields_lem x e =
      let f = next (number 1) (reserved 3 1 ▷ descriptors) 1 (number_sized 1) s l p (p + stream_pid_place) x q refl e in
      let past = p + stream_descriptors_place in
      let g = next (reserved 3 1) descriptors 2 (reserved_sized 3 1) s l (p + stream_pid_place) past x.1 q (omega arith) f.1 in
      record {
        type_is = ap number_of (in_its_part s l p x.0 inside f.0 (λ m. (number 1).parse s m p) ∙ f.0);
        pid_is = ap number_of (in_its_part s l p x.0 inside f.0 (λ m. (reserved 3 1).parse s m (p + stream_pid_place)) ∙ g.0);
        descriptors_asked = rw (in_its_part s l p x.0 inside f.0 (λ m. (counted length12 rest).parse s m past))
            (descriptors_asked s b l past (past + 2) refl x.1.1 q g.1);
      }

  stream_asked : (t : Stream) → stream.parse s l p ≡ found t q → StreamAsked s l t p q
  unfolding stream
  stream_asked t e =
      let v = view_found _ _ stream_fields s l p t q e in
      subst (λ (y : Stream). StreamAsked s l y p q) v.2 (stream_fields_lem v.0 v.1)

-- the streams after their length at p
streams_asked : (s : List ℕ) → Bytes s → (l p at : ℕ) → at ≡ p + 2 → (ts : List Stream) (q : ℕ) → streams.parse s l p ≡ found ts q
    → StreamsAsked s (part_of ((counted (length_of 2) rest).parse s l p)) at ts q
unfolding streams stream_count
streams_asked s b l p at from ts q e =
    record {
      in_turn = holds_in_turn (length_of 2) 2 (length_sized 2) stream all_streams_filling s b l p at from ts q e (StreamAsked s q)
          (λ inside t a r m. stream_asked s b q inside a r t m);
      counted = all_counted (length_of 2) 2 (length_sized 2) stream all_streams_filling s b l p at from ts q e;
    }

-- ---- the channel, which begins at p and ends at q

no_channel : (s : List ℕ) (at n : ℕ) → channel_at s at n ≡ refused (OutsideSet 0) → NoChannel s at n
unfolding channel_network channel_stream channel_program pcr_pid descriptors_part streams_part
no_channel s at n e = record { no_network = rw e; no_stream = rw e; no_program = rw e; no_pcr_pid = rw e; no_descriptors = rw e; no_streams = rw e }

module _ (s : List ℕ) (at n : ℕ) (b : Bytes s) (f p : ℕ) (begins : channel_at s at n ≡ found f p) (q : ℕ) where
  channel_fields_lem : (x : ChannelFields) → channel_fields.parse s (at + n) p ≡ found x q
      → ChannelAsked s at n (record { network = x.0; stream = x.1.0; program = x.1.1.0; pcr_pid = x.1.1.1.0; descriptors = x.1.1.1.1.0; streams = x.1.1.1.1.1 }) p q
  unfolding channel_fields channel_network channel_stream channel_program pcr_pid descriptors_part streams_part
  channel_fields_lem x e =
      let l = at + n in
      let g = next (number 2) _ 2 (number_sized 2) s l p (p + channel_stream_place) x q refl e in
      let h = next (number 2) _ 2 (number_sized 2) s l (p + channel_stream_place) (p + channel_program_place) x.1 q (omega arith) g.1 in
      let i = next (number 2) _ 2 (number_sized 2) s l (p + channel_program_place) (p + pcr_pid_place) x.1.1 q (omega arith) h.1 in
      let past = p + channel_descriptors_place in
      let j = next (reserved 3 1) _ 2 (reserved_sized 3 1) s l (p + pcr_pid_place) past x.1.1.1 q (omega arith) i.1 in
      let k = followed_found descriptors streams s l past x.1.1.1.1 q j.1 in
      let ds = x.1.1.1.1.0 in
      record {
        network_is = rw begins (ap (λ (t : ℕ). number_of ((number 2).parse s l t)) (add-zero p) ∙ ap number_of g.0);
        stream_is = rw (begins, h.0);
        program_is = rw (begins, i.0);
        pcr_pid_is = rw (begins, j.0);
        middle = k.0;
        descriptors_asked = rw begins (descriptors_asked s b l past (past + 2) refl ds k.0 k.1);
        streams_asked = rw (begins, (descriptors_end s b l past ds k.0 k.1).1)
            (streams_asked s b l k.0 (k.0 + 2) refl x.1.1.1.1.1 q k.2);
      }

  channel_asked : (c : Channel) → channel.parse s (at + n) p ≡ found c q → ChannelAsked s at n c p q
  unfolding channel
  channel_asked c e =
      let v = view_found _ _ channel_fields s (at + n) p c q e in
      subst (λ (y : Channel). ChannelAsked s at n y p q) v.2 (channel_fields_lem v.0 v.1)

-- what the flag says of it
under_flag : (s : List ℕ) (at n : ℕ) → Bytes s → (f : ℕ) (c : Under Channel f) (p q : ℕ) → flag_at s at n ≡ found f p
    → (under channel f).parse s (at + n) p ≡ found c q → UnderFlag s at n f c p q
unfolding channel_at under
under_flag s at n b zero c p q f e = no_channel s at n (rw f)
under_flag s at n b (suc k) c p q f e = channel_asked s at n b (suc k) p (rw (f, lt-ltb 0 (suc k) (omega arith))) q c e

-- ---- a message that begins at `at` and has n bytes

-- the fields before the resources
module _ (s : List ℕ) (at n : ℕ) (x : HeadFields) (q : ℕ) (e : head.parse s (at + n) at ≡ found x q) where
  heads : (identifier.parse s (at + n) at ≡ found x.0 (at + network_place)) × ((number 2).parse s (at + n) (at + network_place) ≡ found x.1.0 (at + start_place))
      × (time.parse s (at + n) (at + start_place) ≡ found x.1.1.0 (at + end_place)) × (end_time.parse s (at + n) (at + end_place) ≡ found x.1.1.1.0 (at + type_place))
      × ((bytes_among 0 0x7F 5).parse s (at + n) (at + type_place) ≡ found x.1.1.1.1.0 (at + class_place)) × ((nibbles_among 1 4).parse s (at + n) (at + class_place) ≡ found x.1.1.1.1.1 (at + resource_count_place))
      × (q ≡ at + resource_count_place)
  unfolding head
  heads =
      let l = at + n in
      let f = next identifier _ identifier_bytes identifier_sized s l at (at + network_place) x q refl e in
      let g = next (number 2) _ 2 (number_sized 2) s l (at + network_place) (at + start_place) x.1 q (omega arith) f.1 in
      let h = next time _ 5 time_sized s l (at + start_place) (at + end_place) x.1.1 q (omega arith) g.1 in
      let i = next end_time _ 5 end_sized s l (at + end_place) (at + type_place) x.1.1.1 q (omega arith) h.1 in
      let j = next (bytes_among 0 0x7F 5) (nibbles_among 1 4) 5 (bytes_sized 0 0x7F 5) s l (at + type_place) (at + class_place) x.1.1.1.1 q (omega arith) i.1 in
      let k : q ≡ at + resource_count_place = nibbles_among_sized 1 4 s l (at + class_place) x.1.1.1.1.1 q j.1 ∙ omega arith in
      (f.0, g.0, h.0, i.0, j.0, j.1 ∙ ap (found x.1.1.1.1.1) k, k)

module _ (s : List ℕ) (at n : ℕ) (b : Bytes s) (there : at + n ≤ length s) (x : MessageFields)
    (e : message_fields.parse s (at + n) at ≡ found x (at + n)) where
  -- the head, and the resources with their count, and the flag
  parts : (head.parse s (at + n) at ≡ found x.0 (at + resource_count_place)) × (field_in (count 1) resource_count_place s at n ≡ found (length x.1.0) (at + resources_place))
      × (r : ℕ) × (repeat (resource.parse s (at + n)) (length x.1.0) (at + resources_place) ≡ found x.1.0 r)
      × (flagged.parse s (at + n) (at + resources_place + resource_bytes * length x.1.0) ≡ found x.1.1 (at + n))
  unfolding message_fields
  parts =
      let l = at + n in
      let rs = x.1.0 in
      let f = followed_found head _ s l at x (at + n) e in
      let h = (heads s at n x.0 f.0 f.1).6 in
      let g = followed_found (list_of (count 1) resource) flagged s l f.0 x.1 (at + n) f.2 in
      let i = list_found (count 1) resource s l f.0 rs g.0 g.1 in
      let j : i.0 ≡ at + resources_place = count_sized 1 s l f.0 (length rs) i.0 i.1 ∙ omega (arith, h) in
      let k = repeat_sized resource resource_bytes (digits_sized resource_pairs) s l (length rs) i.0 rs g.0 i.2 in (
        f.1 ∙ ap (found x.0) h,
        asked s at n (count 1) resource_count_place (length rs) (at + resources_place) there (ap ((count 1).parse s l) (sym h) ∙ i.1 ∙ ap (found (length rs)) j),
        g.0,
        ap (repeat (resource.parse s l) (length rs)) (sym j) ∙ i.2,
        ap (flagged.parse s l) (let z : at + resources_place + resource_bytes * length rs ≡ g.0 = omega (arith, j, k) in z) ∙ g.2,
      )

  resource_found : (i : ℕ) → i < length x.1.0 → resource.parse s (at + n) (at + resources_place + resource_bytes * i) ≡ found (get_or x.1.0 i []) (at + resources_place + resource_bytes * i + resource_bytes)
  resource_found i h = nth_sized resource resource_bytes (digits_sized resource_pairs) s (at + n) [] (length x.1.0) i (at + resources_place) x.1.0 parts.2 parts.3 h

  resource_many : (i : ℕ) → i < length x.1.0 → length (get_or x.1.0 i []) ≡ 23
  resource_many i h = digits_many s (at + n) (at + resources_place + resource_bytes * i) resource_pairs _ _ (resource_found i h) b

  resource_at_lem : (i : ℕ) → i < length x.1.0 → resource_at s at n i ≡ found (length x.1.0) (at + resources_place + resource_bytes * i)
  unfolding resource_at
  resource_at_lem i h = rw (parts.1, lt-ltb i (length x.1.0) h)

  resource_none : (i : ℕ) → length x.1.0 ≤ i → resource_at s at n i ≡ refused (OutsideSet 0)
  unfolding resource_at
  resource_none i h = rw (parts.1, le-ltb i (length x.1.0) h)

  -- the flag, where the channel begins, and what the flag says of it
  flag_found : (flag_at s at n ≡ found x.1.1.0 (at + resources_place + resource_bytes * length x.1.0 + 1))
      × ((under channel x.1.1.0).parse s (at + n) (at + resources_place + resource_bytes * length x.1.0 + 1) ≡ found x.1.1.1 (at + n))
  unfolding flag_at flagged
  flag_found =
      let p = at + resources_place + resource_bytes * length x.1.0 in
      let f = depending_found (reserved 7 0) (under channel) s (at + n) p x.1.1 (at + n) parts.4 in
      let z : f.0 ≡ at + resources_place + resource_bytes * length x.1.0 + 1 = reserved_sized 7 0 s (at + n) p x.1.1.0 f.0 f.1 ∙ omega arith in
      (rw parts.1 (f.1 ∙ ap (found x.1.1.0) z), ap ((under channel x.1.1.0).parse s (at + n)) (sym z) ∙ f.2)

  fields_asked : FieldsAsked s at n (named x)
  unfolding identifier_part identifier_digit extension extension_at network start end type_part class level resource_count resource_part resource_digit flag
  fields_asked =
      let h = heads s at n x.0 (at + resource_count_place) parts.0 in
      let room = le-leb (at + n) (length s) there in
      let thirty_five = identifier_many s (at + n) at x.0.0 (at + network_place) h.0 b in
      record {
        identifier_is = rw (room, h.0, add-sub_cancel_left at identifier_bytes);
        identifier_bytes_lem = identifier_bytes_lem s (at + n) at x.0.0 (at + network_place) h.0 b;
        identifier_digits = λ i k. rw room (digit_there identifier s (at + n) at x.0.0 (at + network_place) h.0 i (omega (arith, thirty_five)));
        identifier_past = λ i k. rw room (digit_past identifier s (at + n) at x.0.0 (at + network_place) h.0 i (omega (arith, thirty_five)));
        extension_is = rw (room, h.0);
        network_is = rw (asked s at n (number 2) network_place _ _ there h.1);
        start_is = rw (asked s at n time start_place _ _ there h.2);
        end_is = rw (asked s at n end_time end_place _ _ there h.3);
        type_is = rw (asked s at n (bytes_among 0 0x7F 5) type_place _ _ there h.4) (let z : at + class_place - (at + type_place) ≡ 5 = omega arith in ap (λ b. Ok (at + type_place, b)) z);
        type_bytes = (bytes_are 0 0x7F 5 s (at + n) (at + type_place) x.0.1.1.1.1.0 (at + class_place) h.4).0;
        class_is = rw (asked s at n (nibbles_among 1 4) class_place _ _ there h.5);
        level_is = rw (asked s at n (nibbles_among 1 4) class_place _ _ there h.5);
        resources_counted = rw parts.1;
        resource_is = λ i k. rw (resource_at_lem i k, resource_found i k, add-sub_cancel_left (at + resources_place + resource_bytes * i) resource_bytes);
        resource_bytes_lem = λ i k. digits_bytes s (at + n) (at + resources_place + resource_bytes * i) resource_pairs (get_or x.1.0 i []) _ (resource_found i k) b;
        resource_digits = λ i j k m.
            rw (resource_at_lem i k) (digit_there resource s (at + n) (at + resources_place + resource_bytes * i) _ _ (resource_found i k) j (omega (arith, resource_many i k)));
        resource_digit_past = λ i j k m.
            rw (resource_at_lem i k) (digit_past resource s (at + n) (at + resources_place + resource_bytes * i) _ _ (resource_found i k) j (omega (arith, resource_many i k)));
        resource_past = λ i k. rw (resource_none i k);
        resource_past_digit = λ i j k. rw (resource_none i k);
        flag_is = rw flag_found.0;
        channel_asked = under_flag s at n b x.1.1.0 x.1.1.1 (at + resources_place + resource_bytes * length x.1.0 + 1) (at + n) flag_found.0 flag_found.1;
      }

-- a part that does not lie in the body has none of them
no_message : (s : List ℕ) (at n : ℕ) → length s < at + n → NoMessage s at n
unfolding identifier_part identifier_digit extension extension_at network start end type_part class level resource_count resource_at resource_part resource_digit flag_at flag channel_at
no_message s at n h =
    let t = lt-leb (at + n) (length s) h in
    record {
      no_identifier = rw t;
      no_identifier_digit = λ i. rw t;
      no_extension = rw t;
      no_network = rw t;
      no_start = rw t;
      no_end = rw t;
      no_type = rw t;
      no_class = rw t;
      no_level = rw t;
      no_resource_count = rw t;
      no_resource = λ i. rw t;
      no_resource_digit = λ i j. rw t;
      no_flag = rw t;
      no_channel = no_channel s at n (rw t);
    }

-- and nothing is counted in it
none_counted : (s : List ℕ) (at n : ℕ) → length s < at + n → NoNumberThere (descriptor_count s at n) × NoNumberThere (stream_count s at n)
unfolding descriptor_count stream_count
none_counted s at n h = let t = lt-leb (at + n) (length s) h in (rw t, rw t)

-- ---- the table

module _ (s : List ℕ) (b : Bytes s) (x : List Message × List ℕ) (q : ℕ) (e : fields.parse s (length s) 0 ≡ found x q) where
  -- where the messages end
  two : (r : ℕ) × ((list_of (count 1) message).parse s (length s) 0 ≡ found x.0 r) × ((opaque 2).parse s (length s) r ≡ found x.1 q)
  unfolding fields
  two = followed_found (list_of (count 1) message) (opaque 2) s (length s) 0 x q e

  messages : ((count 1).parse s (length s) 0 ≡ found (length x.0) 1) × (repeat (message.parse s (length s)) (length x.0) 1 ≡ found x.0 two.0)
  messages =
      let f = list_found (count 1) message s (length s) 0 x.0 two.0 two.1 in
      let z = count_sized 1 s (length s) 0 (length x.0) f.0 f.1 in
      (f.1 ∙ ap (found (length x.0)) z, ap (repeat (message.parse s (length s)) (length x.0)) (sym z) ∙ f.2)

  same : (p : ℕ) (m : Message) (r : ℕ) → message.parse s (length s) p ≡ found m r → (xs : List ℕ) × ((opaque 2).parse s (length s) p ≡ found xs r)
  unfolding message
  same p m r h = bytes_hold (length_of 2) _ inner_filling s b (length s) p m r h

  message_asked : (i : ℕ) (m : Message) (p r : ℕ) → ReadAt message (opaque 2) s (length s) (length x.0) 1 i m p r → MessageAsked s i m p r
  unfolding message message_part part_listed thing_listed
  message_asked i m p r h =
      let g = follows_length 2 _ inner_filling s b p m r h.here in
      let at = p + 2 in
      let v = view_found named unnamed message_fields s (at + g.0) at m (at + g.0) (exact_found PastPart _ s (at + g.0) at m (at + g.0) g.2).0 in
      let inside : at + g.0 ≤ length s = omega (arith, g.1.ends, g.1.in_body_lem) in
      record {
        size = g.0;
        part_follows = rw (messages.0, lt-ltb i (length x.0) h.among, after_all (opaque 2) s (length s) i 1 h.before p h.passed) g.1;
        fields_asked = subst (FieldsAsked s at g.0) v.2 (fields_asked s at g.0 b inside v.0 v.1);
      }

  table_fields : IndexAsked s (record { messages = x.0; signature = x.1 })
  unfolding message_count message_part signature_part number_read part_listed thing_listed list_of
  table_fields =
      record {
        messages_counted = rw messages.0;
        messages_end = two.0;
        messages_asked = read_in_turn message (opaque 2) s (length s) same 1 x.0 two.0 messages.1 (MessageAsked s) message_asked;
        message_past = λ i h. rw (messages.0, le-ltb i (length x.0) h);
        signature_fills = rw (messages.0, (all_same message (opaque 2) s (length s) same (length x.0) 1 x.0 two.0 messages.1).1)
            (opaque_fills_at s b (length s) (le_refl (length s)) 2 two.0 (two.0 + 2) refl x.1 q two.2).0;
        message_outside = no_message s;
        descriptor_outside = λ at n h. no_descriptor s at n (past_body s at n h);
        descriptor_past = λ at. no_descriptor s at 0 (past_end s at 0 (omega arith));
        stream_outside = λ at n h. no_stream s at n (past_body s at n h);
        stream_past = λ at. no_stream s at 0 (past_end s at 0 (omega arith));
        descriptors_outside = λ at n h. (none_counted s at n h).0;
        streams_outside = λ at n h. (none_counted s at n h).1;
      }

pub index_asked : (kind : ℕ) (s : List ℕ) → Bytes s → (t : Index) (q : ℕ) → reading index index_kind kind s ≡ found t q → IndexAsked s t
unfolding index
index_asked kind s b t q e =
    let a = trips.accepted index index_filling index_kind kind s b t q e in
    let x = exact_found LeftOver _ s (length s) 0 t q a.2 in
    let v = view_found _ _ fields s (length s) 0 t q x.0 in
    subst (IndexAsked s) v.2 (table_fields s b v.0 q v.1)
