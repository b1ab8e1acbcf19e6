-- Where the index table's refusals stand: the laws of formats, from the descriptors up to the table.
use native.Mathlib.Nat.{le_refl}
use Rattle.ground_refusal.specs.declared.Refusal.TheVariants.{LeftOver, PastPart}
use Rattle.body_formats.specs.Format.{count, many}
use Rattle.body_formats.proofs.Places.{Placed, count_placed, number_placed, nibbles_among_placed, reserved_placed, bytes_among_placed, followed_placed, under_placed, view_placed, list_placed, many_placed, exact_placed, length_placed, length12_placed, opaque_placed, time_placed, end_placed, resources_placed}
use Rattle.body_formats.proofs.Identifiers.{identifier_placed}
use Rattle.index.specs.Index.{descriptor, descriptors, stream_fields, stream, streams, channel_fields, channel, flagged, head, message_fields, message, fields, index}

descriptors_placed : Placed descriptors
unfolding descriptors descriptor
descriptors_placed =
    length12_placed (many descriptor) (many_placed descriptor (view_placed _ _ _ (followed_placed _ _ (number_placed 1) (λ a. opaque_placed 1))))

streams_placed : Placed streams
unfolding streams stream stream_fields
streams_placed =
    length_placed 2 (many stream) (many_placed stream (view_placed _ _ stream_fields
    (followed_placed _ _ (number_placed 1) (λ a. followed_placed _ _ (reserved_placed 3 1) (λ b. descriptors_placed)))))

channel_placed : Placed channel
unfolding channel channel_fields
channel_placed =
    view_placed _ _ channel_fields
    (followed_placed _ _ (number_placed 2) (λ a. followed_placed _ _ (number_placed 2) (λ b. followed_placed _ _ (number_placed 2) (λ c.
    followed_placed _ _ (reserved_placed 3 1) (λ d. followed_placed _ _ descriptors_placed (λ e. streams_placed))))))

head_placed : Placed head
unfolding head
head_placed =
    followed_placed _ _ identifier_placed (λ a. followed_placed _ _ (number_placed 2) (λ b. followed_placed _ _ time_placed (λ c.
    followed_placed _ _ end_placed (λ d. followed_placed _ _ (bytes_among_placed 0 0x7F 5) (λ e. nibbles_among_placed 1 4)))))

message_placed : Placed message
unfolding message message_fields flagged
message_placed =
    length_placed 2 _ (exact_placed PastPart _ le_refl (view_placed _ _ message_fields
    (followed_placed _ _ head_placed (λ a. followed_placed _ _ resources_placed (λ b.
    followed_placed _ _ (reserved_placed 7 0) (under_placed channel channel_placed))))))

pub index_placed : Placed index
unfolding index fields
index_placed =
    exact_placed LeftOver _ le_refl
    (view_placed _ _ fields (followed_placed _ _ (list_placed message message_placed (count 1) (count_placed 1)) (λ a. opaque_placed 2)))
