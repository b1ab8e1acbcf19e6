-- The index table's formats keep the laws of formats, from the descriptor up to the table.
use Prim.Native.Nat.{ℕ, ◌<◌}
use mathlib.Core.Path.{refl}
use native.Mathlib.Omega.{arith}
use lib.ListN.{length, length-append}
use Rattle.ground_refusal.specs.declared.Refusal.TheVariants.{LeftOver, PastPart}
use Rattle.body_formats.specs.Format.{Format, ◌▷◌, followed, count, number, only, reserved, many, opaque, length_of, length12, exact, view}
use Rattle.body_formats.proofs.Classes.{Lawful, Filling}
use Rattle.body_formats.proofs.Leaves.{count_lawful, reserved_lawful, length_bytes_lem}
use Rattle.body_formats.proofs.Bits.{nibbles_among_lawful, bytes_among_lawful}
use Rattle.body_formats.proofs.Parts.{number_lawful, followed_lawful, under_lawful, view_lawful, exact_filling, counted_lawful, length_counts, length12_counts, opaque_lawful}
use Rattle.body_formats.proofs.Lists.{list_lawful, many_filling}
use Rattle.body_formats.proofs.Resources.{resources_lawful}
use Rattle.body_formats.proofs.Identifiers.{identifier_lawful}
use Rattle.body_formats.proofs.Times.{time_lawful, end_lawful}
use Rattle.index.specs.Index.{Descriptor, descriptor, descriptors, Stream, stream_fields, stream, streams, channel_fields, channel, flagged, head, named, unnamed, message_fields, message, fields, index}

-- each takes a byte at least
byte_first : {A : Type 0} (F : Format A) (x : ℕ × A) → 0 < length ((number 1 ▷ F).print x)
unfolding followed number only count
byte_first F x = rw length-append (omega (arith, length_bytes_lem 1 x.0))

pub descriptor_fields_lawful : Lawful (number 1 ▷ opaque 1)
descriptor_fields_lawful = followed_lawful _ _ (number_lawful 1) (λ a. opaque_lawful 1)

pub descriptor_lawful : Lawful descriptor
unfolding descriptor
descriptor_lawful = view_lawful _ _ _ (λ a. refl) (λ b. refl) descriptor_fields_lawful

pub descriptor_takes : (d : Descriptor) → 0 < length (descriptor.print d)
unfolding descriptor view
descriptor_takes d = byte_first (opaque 1) (d.tag, d.bytes)

pub all_descriptors_filling : Filling (many descriptor)
all_descriptors_filling = many_filling descriptor descriptor_lawful descriptor_takes

pub descriptors_lawful : Lawful descriptors
unfolding descriptors
descriptors_lawful = counted_lawful length12 (many descriptor) (length12_counts (many descriptor)) all_descriptors_filling

pub stream_fields_lawful : Lawful stream_fields
unfolding stream_fields
stream_fields_lawful = followed_lawful _ _ (number_lawful 1) (λ a. followed_lawful _ _ (reserved_lawful 3 1 (omega arith)) (λ b. descriptors_lawful))

pub stream_lawful : Lawful stream
unfolding stream
stream_lawful = view_lawful _ _ _ (λ a. refl) (λ b. refl) stream_fields_lawful

pub stream_takes : (t : Stream) → 0 < length (stream.print t)
unfolding stream stream_fields view
stream_takes t = byte_first (reserved 3 1 ▷ descriptors) (t.type, (t.pid, t.descriptors))

pub all_streams_filling : Filling (many stream)
all_streams_filling = many_filling stream stream_lawful stream_takes

pub streams_lawful : Lawful streams
unfolding streams
streams_lawful = counted_lawful (length_of 2) (many stream) (length_counts 2 (many stream)) all_streams_filling

pub channel_fields_lawful : Lawful channel_fields
unfolding channel_fields
channel_fields_lawful =
    followed_lawful _ _ (number_lawful 2) (λ a. followed_lawful _ _ (number_lawful 2) (λ b. followed_lawful _ _ (number_lawful 2) (λ c.
    followed_lawful _ _ (reserved_lawful 3 1 (omega arith)) (λ d. followed_lawful _ _ descriptors_lawful (λ e. streams_lawful)))))

pub channel_lawful : Lawful channel
unfolding channel
channel_lawful = view_lawful _ _ _ (λ a. refl) (λ b. refl) channel_fields_lawful

pub flagged_lawful : Lawful flagged
unfolding flagged
flagged_lawful = followed_lawful _ _ (reserved_lawful 7 0 (omega arith)) (under_lawful channel channel_lawful)

pub head_lawful : Lawful head
unfolding head
head_lawful =
    followed_lawful _ _ identifier_lawful (λ a. followed_lawful _ _ (number_lawful 2) (λ b. followed_lawful _ _ time_lawful (λ c.
    followed_lawful _ _ end_lawful (λ d. followed_lawful _ _ (bytes_among_lawful 0 0x7F 5) (λ e. nibbles_among_lawful 1 4)))))

pub message_fields_lawful : Lawful message_fields
unfolding message_fields
message_fields_lawful = followed_lawful _ _ head_lawful (λ a. followed_lawful _ _ resources_lawful (λ b. flagged_lawful))

pub named_lawful : Lawful (view named unnamed message_fields)
named_lawful = view_lawful named unnamed message_fields (λ a. refl) (λ b. refl) message_fields_lawful

pub inner_filling : Filling (exact PastPart (view named unnamed message_fields))
inner_filling = exact_filling PastPart _ named_lawful

pub message_lawful : Lawful message
unfolding message
message_lawful = counted_lawful (length_of 2) _ (length_counts 2 _) inner_filling

pub fields_lawful : Lawful fields
unfolding fields
fields_lawful = followed_lawful _ _ (list_lawful message message_lawful (count 1) (count_lawful 1)) (λ a. opaque_lawful 2)

pub index_filling : Filling index
unfolding index
index_filling = exact_filling LeftOver _ (view_lawful _ _ _ (λ a. refl) (λ b. refl) fields_lawful)
