-- What a reader has to believe of the fields asked for: each stands at its place in its message, whether or not the whole body is good.
use Rattle.std.specs.Prelude.{ℕ, ◌+◌, ◌*◌, List, length, ltb, Result}
use Rattle.ground_refusal.specs.declared.Refusal.{Refusal}
use Rattle.ground_refusal.specs.declared.Refusal.TheVariants.{OutsideSet}
use Rattle.body_formats.specs.Reading.{Reading, found, and_then, need}
use Rattle.body_formats.specs.Format.{Format, count, number, reserved, nibbles_among, bytes_among, list_of, opaque, rest, counted, length_of, length12}
use Rattle.body_formats.specs.Time.{time, end_time}
use Rattle.body_formats.specs.Answers.{number_of, part_of, field_part, number_read, part_listed, digit_read}
use Rattle.body_formats.specs.Resource.{resource_bytes, resource}
use Rattle.body_formats.specs.Identifier.{identifier}
use Rattle.body_extension.specs.Extension.{extension_at}
use Rattle.body_asking.specs.Asking.{in_body, field_in, asked_at}
use Rattle.index.specs.Places.{network_place, start_place, end_place, type_place, class_place, resource_count_place, resources_place, channel_stream_place, channel_program_place, pcr_pid_place, channel_descriptors_place}

-- ---- the table

unfoldable pub message_count : List ℕ → Result (ℕ × ℕ) Refusal
message_count s = number_read 1 s (length s) 0

-- the part that the i-th message fills
unfoldable pub message_part : List ℕ → ℕ → Result (ℕ × ℕ) Refusal
message_part s i = part_listed 1 2 i s (length s) 0

unfoldable pub signature_part : List ℕ → Result (ℕ × ℕ) Refusal
signature_part s = part_of (and_then ((list_of (count 1) (opaque 2)).parse s (length s) 0) (λ xs q. (opaque 2).parse s (length s) q))

-- ---- a message, told by where it begins and its length, as its record has them

unfoldable pub identifier_part : List ℕ → ℕ → ℕ → Result (ℕ × ℕ) Refusal
identifier_part s at n = field_part at (in_body s at n (λ l. identifier.parse s l at))

unfoldable pub identifier_digit : List ℕ → ℕ → ℕ → ℕ → Result (ℕ × ℕ) Refusal
identifier_digit s at n i = asked_at (in_body s at n (λ l. found l at)) (λ p. digit_read identifier i s (at + n) p)

-- the extension of its content table: that of the identifier
unfoldable pub extension : List ℕ → ℕ → ℕ → Result (ℕ × ℕ) Refusal
extension s at n = asked_at (in_body s at n (λ l. found l at)) (λ p. extension_at s (at + n) p)

unfoldable pub network : List ℕ → ℕ → ℕ → Result (ℕ × ℕ) Refusal
network s at n = number_of (field_in (number 2) network_place s at n)

unfoldable pub start : List ℕ → ℕ → ℕ → Result (ℕ × ℕ) Refusal
start s at n = number_of (field_in time start_place s at n)

unfoldable pub end : List ℕ → ℕ → ℕ → Result (ℕ × ℕ) Refusal
end s at n = number_of (field_in end_time end_place s at n)

unfoldable pub type_part : List ℕ → ℕ → ℕ → Result (ℕ × ℕ) Refusal
type_part s at n = field_part (at + type_place) (field_in (bytes_among 0 0x7F 5) type_place s at n)

unfoldable pub class : List ℕ → ℕ → ℕ → Result (ℕ × ℕ) Refusal
class s at n = number_of (and_then (field_in (nibbles_among 1 4) class_place s at n) (λ x q. found x.0 q))

unfoldable pub level : List ℕ → ℕ → ℕ → Result (ℕ × ℕ) Refusal
level s at n = number_of (and_then (field_in (nibbles_among 1 4) class_place s at n) (λ x q. found x.1 q))

unfoldable pub resource_count : List ℕ → ℕ → ℕ → Result (ℕ × ℕ) Refusal
resource_count s at n = number_of (field_in (count 1) resource_count_place s at n)

-- where the i-th resource begins: all are of one length
unfoldable pub resource_at : List ℕ → ℕ → ℕ → ℕ → Reading ℕ
resource_at s at n i = and_then (field_in (count 1) resource_count_place s at n) (λ m q. need (ltb i m) (OutsideSet 0) (found m (q + resource_bytes * i)))

unfoldable pub resource_part : List ℕ → ℕ → ℕ → ℕ → Result (ℕ × ℕ) Refusal
resource_part s at n i = field_part (at + resources_place + resource_bytes * i) (and_then (resource_at s at n i) (λ m p. resource.parse s (at + n) p))

unfoldable pub resource_digit : List ℕ → ℕ → ℕ → ℕ → ℕ → Result (ℕ × ℕ) Refusal
resource_digit s at n i j = asked_at (resource_at s at n i) (λ p. digit_read resource j s (at + n) p)

-- ---- the channel, which follows its flag

unfoldable pub flag_at : List ℕ → ℕ → ℕ → Reading ℕ
flag_at s at n = and_then (field_in (count 1) resource_count_place s at n) (λ m q. (reserved 7 0).parse s (at + n) (q + resource_bytes * m))

unfoldable pub flag : List ℕ → ℕ → ℕ → Result (ℕ × ℕ) Refusal
flag s at n = number_of (flag_at s at n)

-- where the channel begins, if its flag is not 0
unfoldable pub channel_at : List ℕ → ℕ → ℕ → Reading ℕ
channel_at s at n = and_then (flag_at s at n) (λ f q. need (ltb 0 f) (OutsideSet 0) (found f q))

-- the field k bytes into the channel
abbrev pub in_channel : {A : Type 0} → Format A → ℕ → List ℕ → ℕ → ℕ → Reading A
in_channel F k s at n = and_then (channel_at s at n) (λ f q. F.parse s (at + n) (q + k))

unfoldable pub channel_network : List ℕ → ℕ → ℕ → Result (ℕ × ℕ) Refusal
channel_network s at n = number_of (in_channel (number 2) 0 s at n)

unfoldable pub channel_stream : List ℕ → ℕ → ℕ → Result (ℕ × ℕ) Refusal
channel_stream s at n = number_of (in_channel (number 2) channel_stream_place s at n)

unfoldable pub channel_program : List ℕ → ℕ → ℕ → Result (ℕ × ℕ) Refusal
channel_program s at n = number_of (in_channel (number 2) channel_program_place s at n)

unfoldable pub pcr_pid : List ℕ → ℕ → ℕ → Result (ℕ × ℕ) Refusal
pcr_pid s at n = number_of (in_channel (reserved 3 1) pcr_pid_place s at n)

-- the part that the channel's descriptors fill, and the one that its streams fill
unfoldable pub descriptors_part : List ℕ → ℕ → ℕ → Result (ℕ × ℕ) Refusal
descriptors_part s at n = part_of (in_channel (counted length12 rest) channel_descriptors_place s at n)

unfoldable pub streams_part : List ℕ → ℕ → ℕ → Result (ℕ × ℕ) Refusal
streams_part s at n = part_of (and_then (in_channel (counted length12 rest) channel_descriptors_place s at n) (λ xs q. (counted (length_of 2) rest).parse s (at + n) q))
