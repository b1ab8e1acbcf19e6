-- What is ready of each thing in an index table: its entries, its bytes, and what comes after its fixed fields.
use Prim.Native.Nat.{ℕ, ◌+◌, ◌-◌, ◌≤◌, ◌<◌}
use mathlib.Core.Path.{◌≡◌, refl, ap}
use mathlib.Core.List.{List}
use native.Mathlib.Omega.{arith}
use lib.ListN.{length, get_or}
use Rattle.ground_numbers.specs.Sizes.{body_most}
use Rattle.ground_placing.specs.Placed.{placed}
use Rattle.ground_refusal.specs.declared.Refusal.TheVariants.{PastPart}
use Rattle.body_formats.specs.Format.{◌▷◌, digits, bytes_of, length_of}
use Rattle.body_formats.specs.Time.{time, end_time}
use Rattle.body_formats.specs.Identifier.{identifier_pairs, unreal_day, identifier}
use Rattle.body_ink.specs.Inked.{Ready, Inked}
use Rattle.body_ink.proofs.Pairs.{moved, first, view_ready, view_inked, exact_ready, exact_inked, only_ready, Fixed, only_fixed, after_fixed}
use Rattle.body_ink.proofs.Numbers.{Numeral, a_number, of_a_set, after_bits, reserved_below, numeral_ready, numeral_fixed, after_number, nibbles_ready}
use Rattle.body_ink.proofs.Strings.{tagged_ready, bytes_ready, digits_fixed, bytes_fixed}
use Rattle.body_ink.proofs.Lengths.{counted_ready, counted_inked, length_of_prints}
use Rattle.index.specs.Index.{descriptor, descriptors, stream_fields, stream, streams, channel_fields, channel, head, message_fields, named, unnamed, message}

pub descriptor_entries : {pool tape : List ℕ} {at k room : ℕ} → Ready descriptor pool tape at k room → k + 3 ≤ length tape
unfolding descriptor
descriptor_entries g = (tagged_ready 1 _ _ g (λ a. refl)).0

-- a stream and a channel, up to their descriptors
pub stream_ready : {pool tape : List ℕ} {at k room : ℕ} → Ready stream pool tape at k room
    → (k + 2 ≤ length tape) × (at + 3 ≤ room) × (at + 3 ≤ body_most) × (get_or tape (k + 1) 0 < 8192) × Ready descriptors pool tape (at + 3) (k + 2) room
unfolding stream stream_fields
stream_ready g =
    let p = after_number (a_number 1) _ (view_ready _ _ g (λ a. refl)) in
    let r = numeral_ready (after_bits 3 1) (first _ _ p) in
    (omega arith, omega arith, omega arith, reserved_below 3 1 (first _ _ p), moved (after_number (after_bits 3 1) _ p) (omega arith) (omega arith) refl)

pub channel_ready : {pool tape : List ℕ} {at k room : ℕ} → Ready channel pool tape at k room
    → (k + 4 ≤ length tape) × (at + 8 ≤ room) × (at + 8 ≤ body_most) × (get_or tape (k + 3) 0 < 8192)
    × Ready (descriptors ▷ streams) pool tape (at + 8) (k + 4) room
unfolding channel channel_fields
channel_ready {pool} {tape} {at} {k} g =
    let p = after_number (a_number 2) _ (after_number (a_number 2) _ (after_number (a_number 2) _ (view_ready _ _ g (λ a. refl)))) in
    let r = numeral_ready (after_bits 3 1) (first _ _ p) in
    let three : k + 1 + 1 + 1 ≡ k + 3 = omega arith in (
      omega arith,
      omega arith,
      omega arith,
      omega (arith, reserved_below 3 1 (first _ _ p), ap (λ m. get_or tape m 0) three),
      moved (after_number (after_bits 3 1) _ p) (omega arith) (omega arith) refl,
    )

-- ---- a message

pub a_time : Numeral 5 (λ v. v) time
unfolding time
a_time = of_a_set (a_number 5) _

pub an_end : Numeral 5 (λ v. v) end_time
unfolding end_time
an_end = of_a_set (a_number 5) _

identifier_fixed : Fixed 18 2 identifier
unfolding identifier
identifier_fixed = only_fixed (digits_fixed identifier_pairs) unreal_day

pub identifier_ready : {pool tape : List ℕ} {at k room : ℕ} → Ready head pool tape at k room → Ready (digits identifier_pairs) pool tape at k room
unfolding head identifier
identifier_ready g = only_ready unreal_day (first _ _ g)

pub head_ready : {pool tape : List ℕ} {at k room : ℕ} → Ready head pool tape at k room
    → (k + 9 ≤ length tape) × (at + 36 ≤ room) × (at + 36 ≤ body_most) × (get_or tape (k + 5) 0 + 5 ≤ length pool) × (get_or tape (k + 7) 0 < 16)
    × (get_or tape (k + 8) 0 < 16)
unfolding head
head_ready {pool} {tape} {at} {k} g =
    let typed =
    after_fixed (numeral_fixed an_end) (after_fixed (numeral_fixed a_time) (after_fixed (numeral_fixed (a_number 2)) (after_fixed identifier_fixed g))) in
    let n = nibbles_ready 1 4 (after_fixed (only_fixed (bytes_fixed 5) _) typed) in
    let t = bytes_ready 5 (only_ready _ (first _ _ typed)) in
    let five : k + 2 + 1 + 1 + 1 ≡ k + 5 = omega arith in
    let seven : k + 2 + 1 + 1 + 1 + 2 ≡ k + 7 = omega arith in
    let eight : k + 2 + 1 + 1 + 1 + 2 + 1 ≡ k + 8 = omega arith in (
      omega (arith, n.0),
      omega (arith, n.1),
      omega (arith, n.2),
      omega (arith, t.1, ap (λ m. get_or tape m 0) five),
      omega (arith, n.3, ap (λ m. get_or tape m 0) seven),
      omega (arith, n.4, ap (λ m. get_or tape m 0) eight),
    )

pub message_ready : {pool tape : List ℕ} {at k room : ℕ} → Ready message pool tape at k room → Ready message_fields pool tape (at + 2) k room
unfolding message
message_ready g = view_ready named unnamed (exact_ready PastPart (counted_ready (length_of 2) 2 (λ n. n) (length_of_prints 2) g)) (λ a. refl)

pub message_inked : {pool tape : List ℕ} {at k : ℕ} {out : List ℕ} {at' k' : ℕ} {mid out' : List ℕ} → Inked message_fields pool tape (at + 2) k out at' k' mid
    → out' ≡ placed mid at (bytes_of 2 (at' - at - 2)) → Inked message pool tape at k out at' k' out'
unfolding message
message_inked i e = counted_inked (length_of 2) 2 (λ n. n) (length_of_prints 2) (exact_inked (view_inked i named unnamed (λ a. refl)) PastPart) e
