-- What a reader has to believe of the index table: its fields in wire order.
use Rattle.std.specs.Prelude.{ℕ, List}
use Rattle.ground_refusal.specs.declared.Refusal.TheVariants.{LeftOver, PastPart}
use Rattle.body_formats.specs.Format.{Format, ◌▷◌, followed, Under, under, count, number, nibbles_among, bytes_among, reserved, list_of, many, opaque, exact, view, length_of, length12, counted}
use Rattle.body_formats.specs.Time.{time, end_time}
use Rattle.body_formats.specs.Resource.{resources}
use Rattle.body_formats.specs.Identifier.{identifier}
-- "FD index"
pub use Rattle.ground_numbers.specs.Sizes.{index_kind}

-- ---- descriptors and streams

-- "A descriptor is tag, 8-bit length, data"
pub record Descriptor : Type 0 where
  pub tag : ℕ
  pub bytes : List ℕ

unfoldable pub descriptor : Format Descriptor
descriptor = view (λ x. record { tag = x.0; bytes = x.1 }) (λ d. (d.tag, d.bytes)) (number 1 ▷ opaque 1)

-- "4 reserved, length 12, descriptors"; they "repeat to the end of their part"
unfoldable pub descriptors : Format (List Descriptor)
descriptors = counted length12 (many descriptor)

-- "type 8, 3 reserved, PID 13, 4 reserved, length 12, descriptors"
pub record Stream : Type 0 where
  pub type : ℕ
  pub pid : ℕ
  pub descriptors : List Descriptor

unfoldable pub stream_fields : Format (ℕ × (ℕ × List Descriptor))
stream_fields = number 1 ▷ (reserved 3 1 ▷ descriptors)

unfoldable pub stream : Format Stream
stream = view (λ x. record { type = x.0; pid = x.1.0; descriptors = x.1.1 }) (λ t. (t.type, (t.pid, t.descriptors))) stream_fields

-- "16-bit stream length; streams", which "repeat to the end of their part"
unfoldable pub streams : Format (List Stream)
streams = counted (length_of 2) (many stream)

-- ---- the channel

-- "network, stream, program 16 each; 3 reserved, PCR PID 13; 4 reserved, descriptor length 12, descriptors; 16-bit stream length; streams"
pub record Channel : Type 0 where
  pub network : ℕ
  pub stream : ℕ
  pub program : ℕ
  pub pcr_pid : ℕ
  pub descriptors : List Descriptor
  pub streams : List Stream

abbrev pub ChannelFields : Type 0
ChannelFields = ℕ × (ℕ × (ℕ × (ℕ × (List Descriptor × List Stream))))

unfoldable pub channel_fields : Format ChannelFields
channel_fields = number 2 ▷ (number 2 ▷ (number 2 ▷ (reserved 3 1 ▷ (descriptors ▷ streams))))

unfoldable pub channel : Format Channel
channel =
    view
    (λ x. record { network = x.0; stream = x.1.0; program = x.1.1.0; pcr_pid = x.1.1.1.0; descriptors = x.1.1.1.1.0; streams = x.1.1.1.1.1 })
    (λ c. (c.network, (c.stream, (c.program, (c.pcr_pid, (c.descriptors, c.streams))))))
    channel_fields

-- "7 reserved, channel flag. If 1:" the channel
abbrev pub Flagged : Type 0
Flagged = (flag : ℕ) × Under Channel flag

unfoldable pub flagged : Format Flagged
flagged = followed (reserved 7 0) (λ flag. under channel flag)

-- ---- the message

pub record Message : Type 0 where
  pub identifier : List ℕ
  pub network : ℕ
  pub start : ℕ
  pub end : ℕ
  pub type : List ℕ
  pub class : ℕ
  pub level : ℕ
  pub resources : List (List ℕ)
  pub channel : Flagged

-- "4 reserved, 35 digits", "type five bytes each at most 0x7F", "class 4 bits (1 to 4), level 4 bits (1 to 4)"
abbrev pub HeadFields : Type 0
HeadFields = List ℕ × (ℕ × (ℕ × (ℕ × (List ℕ × (ℕ × ℕ)))))

unfoldable pub head : Format HeadFields
head = identifier ▷ (number 2 ▷ (time ▷ (end_time ▷ (bytes_among 0 0x7F 5 ▷ nibbles_among 1 4))))

abbrev pub MessageFields : Type 0
MessageFields = HeadFields × (List (List ℕ) × Flagged)

-- "resource count 8, resources of 4 reserved + 23 digits, 7 reserved, channel flag"
unfoldable pub message_fields : Format MessageFields
message_fields = head ▷ (resources ▷ flagged)

abbrev pub named : MessageFields → Message
named x =
    record {
      identifier = x.0.0;
      network = x.0.1.0;
      start = x.0.1.1.0;
      end = x.0.1.1.1.0;
      type = x.0.1.1.1.1.0;
      class = x.0.1.1.1.1.1.0;
      level = x.0.1.1.1.1.1.1;
      resources = x.1.0;
      channel = x.1.1;
    }

abbrev pub unnamed : Message → MessageFields
unnamed m = ((m.identifier, (m.network, (m.start, (m.end, (m.type, (m.class, m.level)))))), (m.resources, m.channel))

-- "each message: 16-bit EBM_length, then" its fields, which fill it
unfoldable pub message : Format Message
message = counted (length_of 2) (exact PastPart (view named unnamed message_fields))

-- ---- the table

pub record Index : Type 0 where
  pub messages : List Message
  pub signature : List ℕ

-- "8-bit message count; each message", "Last: 16-bit signature length and signature"
unfoldable pub fields : Format (List Message × List ℕ)
fields = list_of (count 1) message ▷ opaque 2

unfoldable pub index : Format Index
index = exact LeftOver (view (λ x. record { messages = x.0; signature = x.1 }) (λ i. (i.messages, i.signature)) fields)
