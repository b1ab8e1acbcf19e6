-- What a reader has to believe of the fields asked for of an accepted index table: each is the table's own, and what isn't there is refused.
use Rattle.std.specs.Prelude.{ℕ, zero, suc, ◌+◌, ◌-◌, ◌*◌, ◌/◌, ◌≤◌, ◌<◌, ◌≡◌, List, [], length, get_or, take, drop, Result, Ok}
use Rattle.ground_refusal.specs.declared.Refusal.{Refusal}
use Rattle.body_formats.specs.Format.{Under}
use Rattle.body_formats.specs.Resource.{resource_bytes, resource}
use Rattle.body_asking.specs.Agreement.{NoNumberThere, NoPartThere, FillsAt, FollowsLength, InTurn, HoldsInTurn}
use Rattle.body_formats.specs.Identifier.{identifier_bytes, identifier}
use Rattle.body_extension.specs.Extension.{extension_of}
use Rattle.index.specs.Index.{Descriptor, Stream, Channel, Message, message, Index}
use Rattle.index.specs.Places.{start_place, end_place, type_place, resource_count_place, resources_place, channel_stream_place, channel_program_place, pcr_pid_place, channel_descriptors_place, stream_pid_place, stream_descriptors_place}
use Rattle.index_fields.specs.Asked.{message_count, message_part, signature_part, identifier_part, identifier_digit, extension, network, start, end, type_part, class, level, resource_count, resource_part, resource_digit, flag, channel_network, channel_stream, channel_program, pcr_pid, descriptors_part, streams_part}
use Rattle.index_stream_fields.specs.Asked.{descriptor_tag, descriptor_part, stream_type, stream_pid, stream_descriptors, descriptor_count, stream_count}

-- "Every field of an accepted table can be asked for, opaque bytes as the part of the body they fill; one that isn't there is 19, place 0":
-- a number is answered with the position after it, a digit with that of its byte, a part with where it begins and how many bytes it has.

-- ---- descriptors and streams, in a part that ends at l: one that begins at p is told by p and the bytes that the part has from there on

-- a descriptor that stands from p to q
pub record DescriptorAsked (s : List ℕ) (l : ℕ) (d : Descriptor) (p q : ℕ) : Type 0 where
  pub tag_is : descriptor_tag s p (l - p) ≡ Ok (d.tag, p + 1)
  pub bytes_fill : FillsAt s (p + 2) (descriptor_part s p (l - p)) d.bytes
  pub ends : p + 2 + length d.bytes ≡ q

pub record NoDescriptor (s : List ℕ) (at n : ℕ) : Type 0 where
  pub no_tag : NoNumberThere (descriptor_tag s at n)
  pub no_bytes : NoPartThere (descriptor_part s at n)

-- the part answered goes from p to q, all of its descriptors are ds, in order, and so many are counted in it
pub record DescriptorsAsked (s : List ℕ) (part : Result (ℕ × ℕ) Refusal) (p : ℕ) (ds : List Descriptor) (q : ℕ) : Type 0 where
  pub in_turn : HoldsInTurn (λ i. DescriptorAsked s q) s part p ds q
  pub counted : descriptor_count s p (q - p) ≡ Ok (length ds, q)

-- a stream that stands from p to q: its descriptors follow their length, and end where it ends
pub record StreamAsked (s : List ℕ) (l : ℕ) (t : Stream) (p q : ℕ) : Type 0 where
  pub type_is : stream_type s p (l - p) ≡ Ok (t.type, p + stream_pid_place)
  pub pid_is : stream_pid s p (l - p) ≡ Ok (t.pid, p + stream_descriptors_place)
  pub descriptors_asked : DescriptorsAsked s (stream_descriptors s p (l - p)) (p + stream_descriptors_place + 2) t.descriptors q

-- the part answered goes from p to q, all of its streams are ts, in order, and so many are counted in it
pub record StreamsAsked (s : List ℕ) (part : Result (ℕ × ℕ) Refusal) (p : ℕ) (ts : List Stream) (q : ℕ) : Type 0 where
  pub in_turn : HoldsInTurn (λ i. StreamAsked s q) s part p ts q
  pub counted : stream_count s p (q - p) ≡ Ok (length ts, q)

pub record NoStream (s : List ℕ) (at n : ℕ) : Type 0 where
  pub no_type : NoNumberThere (stream_type s at n)
  pub no_pid : NoNumberThere (stream_pid s at n)
  pub no_descriptors : NoPartThere (stream_descriptors s at n)

-- ---- the channel of a message that begins at `at` and has n bytes

-- it stands from p to q
pub record ChannelAsked (s : List ℕ) (at n : ℕ) (c : Channel) (p q : ℕ) : Type 0 where
  pub network_is : channel_network s at n ≡ Ok (c.network, p + channel_stream_place)
  pub stream_is : channel_stream s at n ≡ Ok (c.stream, p + channel_program_place)
  pub program_is : channel_program s at n ≡ Ok (c.program, p + pcr_pid_place)
  pub pcr_pid_is : pcr_pid s at n ≡ Ok (c.pcr_pid, p + channel_descriptors_place)
  -- where the descriptors end: there stands the length of the streams
  pub middle : ℕ
  pub descriptors_asked : DescriptorsAsked s (descriptors_part s at n) (p + channel_descriptors_place + 2) c.descriptors middle
  pub streams_asked : StreamsAsked s (streams_part s at n) (middle + 2) c.streams q

pub record NoChannel (s : List ℕ) (at n : ℕ) : Type 0 where
  pub no_network : NoNumberThere (channel_network s at n)
  pub no_stream : NoNumberThere (channel_stream s at n)
  pub no_program : NoNumberThere (channel_program s at n)
  pub no_pcr_pid : NoNumberThere (pcr_pid s at n)
  pub no_descriptors : NoPartThere (descriptors_part s at n)
  pub no_streams : NoPartThere (streams_part s at n)

-- "channel flag. If 1:" the channel, which stands from p to q
abbrev pub UnderFlag : List ℕ → ℕ → ℕ → (flag : ℕ) → Under Channel flag → ℕ → ℕ → Type 0
UnderFlag s at n zero none p q = NoChannel s at n
UnderFlag s at n (suc f) c p q = ChannelAsked s at n c p q

-- ---- a message that begins at `at` and has n bytes

pub record FieldsAsked (s : List ℕ) (at n : ℕ) (m : Message) : Type 0 where
  pub identifier_is : identifier_part s at n ≡ Ok (at, identifier_bytes)
  pub identifier_bytes_lem : take identifier_bytes (drop at s) ≡ identifier.print m.identifier
  pub identifier_digits : (i : ℕ) → i < 35 → identifier_digit s at n i ≡ Ok (get_or m.identifier i 0, at + (i + 1) / 2)
  pub identifier_past : (i : ℕ) → 35 ≤ i → NoNumberThere (identifier_digit s at n i)
  pub extension_is : extension s at n ≡ Ok (extension_of m.identifier, at + identifier_bytes)
  pub network_is : network s at n ≡ Ok (m.network, at + start_place)
  pub start_is : start s at n ≡ Ok (m.start, at + end_place)
  pub end_is : end s at n ≡ Ok (m.end, at + type_place)
  pub type_is : type_part s at n ≡ Ok (at + type_place, 5)
  pub type_bytes : take 5 (drop (at + type_place) s) ≡ m.type
  pub class_is : class s at n ≡ Ok (m.class, at + resource_count_place)
  pub level_is : level s at n ≡ Ok (m.level, at + resource_count_place)
  pub resources_counted : resource_count s at n ≡ Ok (length m.resources, at + resources_place)
  pub resource_is : (i : ℕ) → i < length m.resources → resource_part s at n i ≡ Ok (at + resources_place + resource_bytes * i, resource_bytes)
  pub resource_bytes_lem : (i : ℕ) → i < length m.resources → take resource_bytes (drop (at + resources_place + resource_bytes * i) s) ≡ resource.print (get_or m.resources i [])
  pub resource_digits : (i j : ℕ) → i < length m.resources → j < 23
      → resource_digit s at n i j ≡ Ok (get_or (get_or m.resources i []) j 0, at + resources_place + resource_bytes * i + (j + 1) / 2)
  pub resource_digit_past : (i j : ℕ) → i < length m.resources → 23 ≤ j → NoNumberThere (resource_digit s at n i j)
  pub resource_past : (i : ℕ) → length m.resources ≤ i → NoPartThere (resource_part s at n i)
  pub resource_past_digit : (i j : ℕ) → length m.resources ≤ i → NoNumberThere (resource_digit s at n i j)
  -- the flag stands after the last resource, and the channel after the flag
  pub flag_is : flag s at n ≡ Ok (m.channel.0, at + resources_place + resource_bytes * length m.resources + 1)
  pub channel_asked : UnderFlag s at n m.channel.0 m.channel.1 (at + resources_place + resource_bytes * length m.resources + 1) (at + n)

pub record NoMessage (s : List ℕ) (at n : ℕ) : Type 0 where
  pub no_identifier : NoPartThere (identifier_part s at n)
  pub no_identifier_digit : (i : ℕ) → NoNumberThere (identifier_digit s at n i)
  pub no_extension : NoNumberThere (extension s at n)
  pub no_network : NoNumberThere (network s at n)
  pub no_start : NoNumberThere (start s at n)
  pub no_end : NoNumberThere (end s at n)
  pub no_type : NoPartThere (type_part s at n)
  pub no_class : NoNumberThere (class s at n)
  pub no_level : NoNumberThere (level s at n)
  pub no_resource_count : NoNumberThere (resource_count s at n)
  pub no_resource : (i : ℕ) → NoPartThere (resource_part s at n i)
  pub no_resource_digit : (i j : ℕ) → NoNumberThere (resource_digit s at n i j)
  pub no_flag : NoNumberThere (flag s at n)
  pub no_channel : NoChannel s at n

-- message number i stands from p to q: its EBM_length of two bytes, and then its part
pub record MessageAsked (s : List ℕ) (i : ℕ) (m : Message) (p q : ℕ) : Type 0 where
  pub size : ℕ
  pub part_follows : FollowsLength 2 s (message_part s i) (message.print m) p size q
  pub fields_asked : FieldsAsked s (p + 2) size m

-- ---- the table t of the body s

pub record IndexAsked (s : List ℕ) (t : Index) : Type 0 where
  pub messages_counted : message_count s ≡ Ok (length t.messages, 1)
  -- the messages stand one after the other from byte 1 on, and where the last one ends stands the length of the signature
  pub messages_end : ℕ
  pub messages_asked : InTurn (MessageAsked s) 0 t.messages 1 messages_end
  pub message_past : (i : ℕ) → length t.messages ≤ i → NoPartThere (message_part s i)
  pub signature_fills : FillsAt s (messages_end + 2) (signature_part s) t.signature
  -- nothing is there in a part that does not lie in the body, and no descriptor or stream where its part has no byte left
  pub message_outside : (at n : ℕ) → length s < at + n → NoMessage s at n
  pub descriptor_outside : (at n : ℕ) → length s < at + n → NoDescriptor s at n
  pub descriptor_past : (at : ℕ) → NoDescriptor s at 0
  pub stream_outside : (at n : ℕ) → length s < at + n → NoStream s at n
  pub stream_past : (at : ℕ) → NoStream s at 0
  pub descriptors_outside : (at n : ℕ) → length s < at + n → NoNumberThere (descriptor_count s at n)
  pub streams_outside : (at n : ℕ) → length s < at + n → NoNumberThere (stream_count s at n)
