-- Laws of one packet: the fields of a packet that the packer writes, and what the unpacker reads in it.
use Prim.Native.Nat.{ℕ, suc, ◌-◌, ◌≤◌}
use mathlib.Core.Bool.{Bool, true, false, and-false}
use mathlib.Core.List.{List, [], ◌∷◌, ◌++◌}
use mathlib.Core.Path.{◌≡◌, refl, sym, ap, ◌∙◌, subst}
use native.Mathlib.Omega.{arith}
use borrow.Author.Tests.{eq-eqb}
use lib.Dec.{eqb}
use lib.ListN.{length, get_or, drop, replicate}
use Rattle.std.specs.Prelude.{if◌then◌else◌, Ok}
use Rattle.ground_equal.specs.Same.{same_bytes}
use Rattle.ground_equal.proofs.Same.{same_is}
use Rattle.packet.specs.Sizes.{packet_bytes, sync_byte, our_pid, stuffing, counter_most}
use Rattle.packet.specs.Fields.{has_error, starts, pid, scrambling, control, counter, payload_at, pointed_at, in_place}
use Rattle.packet.specs.Judging.{judged}
use Rattle.packet.specs.declared.Judged.TheVariants.{Carrying}
use Rattle.packet_frames.specs.Framing.{gone_on}
use Rattle.packet_plan.specs.Reading.{ended, ahead, read_on}
use Rattle.packet_memory.specs.Memory.{Memory, is_repeat, follows, going_on}
use Rattle.packet_reader.specs.Unpacking.{fitting, carrying, verdict_on, unpacking}
use Rattle.packet_writer.specs.Packing.{first_room, next_room, start_byte, header, packet_of, next}
use Rattle.packet_writer.proofs.Packets.{packet_long}

-- ---- a packet that the packer writes

module _ (start : Bool) (c : ℕ) (low : c ≤ counter_most) (payload : List ℕ) where
  pub packet_payload : drop 4 (packet_of start c payload) ≡ payload ++ replicate (next_room - length payload) stuffing
  unfolding packet_of header
  packet_payload = refl

  pub packet_control : control (packet_of start c payload) ≡ 1
  unfolding packet_of header control
  packet_control = omega arith

  pub packet_counter : counter (packet_of start c payload) ≡ c
  unfolding packet_of header counter
  packet_counter = omega arith

  pub packet_scrambling : scrambling (packet_of start c payload) ≡ 0
  unfolding packet_of header scrambling
  packet_scrambling = omega arith

  pub packet_at : payload_at (packet_of start c payload) ≡ 4
  unfolding payload_at
  packet_at = rw (packet_control)

pub packet_error : (start : Bool) (c : ℕ) (payload : List ℕ) → has_error (packet_of start c payload) ≡ false
unfolding packet_of header start_byte has_error
packet_error true c payload = refl
packet_error false c payload = refl

pub packet_pid : (start : Bool) (c : ℕ) (payload : List ℕ) → pid (packet_of start c payload) ≡ our_pid
unfolding packet_of header start_byte pid
packet_pid true c payload = refl
packet_pid false c payload = refl

pub packet_starts : (start : Bool) (c : ℕ) (payload : List ℕ) → starts (packet_of start c payload) ≡ start
unfolding packet_of header start_byte starts
packet_starts true c payload = refl
packet_starts false c payload = refl

-- ---- repeats and gaps

-- the counter c is the next after the last packet's, or free
abbrev pub Awaits : List ℕ → ℕ → Type 0
Awaits [] c = Unit {0}
Awaits (b ∷ bs) c = next (counter (b ∷ bs)) ≡ c

pub awaited_follows : (l p : List ℕ) → Awaits l (counter p) → follows l p ≡ true
unfolding follows next
awaited_follows [] p a = refl
awaited_follows (b ∷ bs) p a = eq-eqb (counter p) _ (sym a)

-- no packet with the next counter is a repeat
pub awaited_other : (l p : List ℕ) → Awaits l (counter p) → length p ≡ packet_bytes → same_bytes l p ≡ false
unfolding counter next
awaited_other l p a n = go (same_bytes l p) refl
  where
    apart : (l : List ℕ) → Awaits l (counter p) → l ≡ p → ⊥
    apart [] a e = let z : ◌≡◌ {A = ℕ} 0 packet_bytes = ap length e ∙ n in omega arith
    apart (b ∷ bs) a e = let z : next (counter p) ≡ counter p = subst (λ l. next (counter l) ≡ counter p) e a in omega arith

    go : (t : Bool) → same_bytes l p ≡ t → same_bytes l p ≡ false
    go true e = absurd (apart l a (same_is l p e))
    go false e = e

-- ---- what the unpacker makes of it

-- a packet that is taken and is no repeat is read after what it goes on from
pub taken_read : (room : ℕ) (m : Memory) (p : List ℕ) → judged p ≡ (Ok Carrying) → is_repeat m p ≡ false
    → unpacking room m p ≡ fitting room p (read_on (going_on m p) p)
unfolding unpacking verdict_on carrying
taken_read room m p t n = rw (t, n)

-- the counter awaited is no repeat's, and drops nothing
pub awaited_repeat : (m : Memory) (p : List ℕ) → length p ≡ packet_bytes → Awaits m.last (counter p) → is_repeat m p ≡ false
unfolding is_repeat
awaited_repeat m p n a = simp (awaited_other m.last p a n, and-false)

awaited_goes : (m : Memory) (p : List ℕ) → Awaits m.last (counter p) → going_on m p ≡ m.unfinished
unfolding going_on
awaited_goes m p a = rw (awaited_follows m.last p a)

packet_sync : (start : Bool) (c : ℕ) (payload : List ℕ) → eqb (get_or (packet_of start c payload) 0 0) sync_byte ≡ true
unfolding packet_of header
packet_sync start c payload = refl

packet_judged : (start : Bool) (c : ℕ) → c ≤ counter_most → (payload : List ℕ) → length payload ≤ next_room → in_place (packet_of start c payload) ≡ true
    → judged (packet_of start c payload) ≡ Ok Carrying
unfolding judged
packet_judged start c low payload h i =
    simp (
      packet_long start c payload h,
      packet_sync start c payload,
      packet_error start c payload,
      packet_pid start c payload,
      packet_scrambling start c low payload,
      packet_control start c low payload,
      i,
    )

-- the pointer of a section's first packet
pub packet_pointed : (c : ℕ) → c ≤ counter_most → (payload : List ℕ) → pointed_at (packet_of true c (0 ∷ payload)) ≡ 5
unfolding pointed_at packet_of header
packet_pointed c low payload = rw (packet_at true c low (0 ∷ payload))

packet_section : (c : ℕ) (payload : List ℕ) → drop 5 (packet_of true c (0 ∷ payload)) ≡ payload ++ replicate (first_room - length payload) stuffing
unfolding packet_of header
packet_section c payload = ap (λ (n : ℕ). payload ++ replicate n stuffing) less
  where
    less : next_room - suc (length payload) ≡ first_room - length payload
    less = omega arith

-- a packet behind a section's first, with the counter awaited
pub continuing : (m : Memory) (c : ℕ) → c ≤ counter_most → Awaits m.last c → (room : ℕ) (payload : List ℕ) → length payload ≤ next_room
    → unpacking room m (packet_of false c payload)
    ≡ fitting room (packet_of false c payload) (gone_on m.unfinished (payload ++ replicate (next_room - length payload) stuffing))
unfolding in_place read_on
continuing m c low a room payload h =
    let p = packet_of false c payload in
    let b : Awaits m.last (counter p) = rw (packet_counter false c low payload) a in
    taken_read room m p
    (packet_judged false c low payload h
    (simp (packet_control false c low payload, packet_at false c low payload, packet_starts false c payload)))
    (awaited_repeat m p (packet_long false c payload h) b)
    ∙ ap (λ u. fitting room p (read_on u p)) (awaited_goes m p b)
    ∙ simp (packet_starts false c payload, packet_at false c low payload, packet_payload false c low payload)

-- a section's first packet, if it is no repeat: whatever it goes on from ends there
pub starting : (m : Memory) (c : ℕ) → c ≤ counter_most → (room : ℕ) (payload : List ℕ) → length payload ≤ first_room
    → is_repeat m (packet_of true c (0 ∷ payload)) ≡ false
    → unpacking room m (packet_of true c (0 ∷ payload))
    ≡ fitting room (packet_of true c (0 ∷ payload))
    (ended (going_on m (packet_of true c (0 ∷ payload))) [] (payload ++ replicate (first_room - length payload) stuffing))
unfolding in_place read_on ahead
starting m c low room payload h n =
    let p = packet_of true c (0 ∷ payload) in
    taken_read room m p
    (packet_judged true c low (0 ∷ payload) (omega arith)
    (simp (
      packet_control true c low (0 ∷ payload),
      packet_at true c low (0 ∷ payload),
      packet_starts true c (0 ∷ payload),
      packet_pointed c low payload,
    )))
    n
    ∙ simp (packet_starts true c (0 ∷ payload), packet_at true c low (0 ∷ payload), packet_pointed c low payload, packet_section c payload)
