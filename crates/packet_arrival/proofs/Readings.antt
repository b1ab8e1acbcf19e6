-- Small runs that the checker computes, one for each reading of the request; tests/packets.py has the same runs of a second program.
use Prim.Native.Nat.{ℕ, ◌-◌}
use mathlib.Core.Bool.{true, false}
use mathlib.Core.List.{List, [], ◌∷◌, ◌++◌}
use mathlib.Core.Path.{◌≡◌, refl}
use lib.ListN.{length, take, drop, replicate}
use Rattle.ground_refusal.specs.declared.Refusal.TheVariants.{OutputTooSmall, OtherPid, Scrambled, PastPacket}
use Rattle.ground_equal.specs.Same.{same_bytes}
use Rattle.section_reader.specs.Section.{word, section_length}
use Rattle.packet.specs.Fields.{has_error, starts, pid, scrambling, control, counter, payload_at, pointed_at, in_place}
use Rattle.packet.specs.Judging.{judged}
use Rattle.packet_frames.specs.Framing.{at_stuffing, framed, too_long, is_whole, nothing, longer, gone_on, before, begun_in, begun, joined}
use Rattle.packet_plan.specs.Reading.{ended, ahead, read_on}
use Rattle.packet_memory.specs.Memory.{fresh, held_after, repeated_once, is_repeat, follows, going_on}
use Rattle.packet_reader.specs.Unpacking.{refuses, fitting, carrying, verdict_on, unpacking, more, and_then, unpacking_all}
use Rattle.packet_writer.specs.Packing.{start_byte, header, packet_of, next, continued, packed}
use Rattle.packet_arrival.specs.Unmixed.{given_by}

-- ---- what is sent

-- a section of 200 bytes, whose table_id no reader takes: "judging a section stays with the section reader"
abbrev long : List ℕ
long = 0x02 ∷ 0xB0 ∷ 197 ∷ replicate 197 7

-- and one of 3
abbrev short : List ℕ
short = 0xFD ∷ 0xF0 ∷ 0 ∷ []

-- its first and its last packet, with counters 15 and 0
abbrev first : List ℕ
first = packet_of true 15 (0 ∷ take 183 long)

abbrev last : List ℕ
last = packet_of false 0 (drop 183 long)

-- a packet of four header bytes and a payload, with zeros to its end
abbrev raw : List ℕ → List ℕ
raw bytes = bytes ++ replicate (188 - length bytes) 0

-- the sections that a fresh unpacker gives
abbrev given : List (List ℕ) → List (List ℕ)
given ps = given_by (unpacking_all 4278 fresh ps)

-- ---- the readings

record Readings : Type 0 where
  -- the packer: a fresh packet, pointer 0, and the counter goes on round the ring
  packs : packed 15 long ≡ first ∷ last ∷ []
  whole : given (first ∷ last ∷ []) ≡ long ∷ []
  -- "One identical repeat of a packet is ignored"; the second is a gap, read at its own pointer; the third is ignored as its repeat
  repeated : given (first ∷ first ∷ last ∷ []) ≡ long ∷ []
  repeated_twice : given (first ∷ first ∷ first ∷ last ∷ []) ≡ long ∷ []
  repeated_last : given (first ∷ last ∷ last ∷ []) ≡ long ∷ []
  -- "the same counter otherwise is a gap"; "A counter gap [..] drops the unfinished section"
  gap : given (first ∷ packet_of false 1 (drop 183 long) ∷ last ∷ []) ≡ []
  -- "a gap packet's own included"
  own_pointer : given (first ∷ packet_of true 3 (0 ∷ short) ∷ []) ≡ short ∷ []
  -- "an error bit": of any PID, and nothing else of the packet is read; after it nothing is a repeat
  error : given (first ∷ raw (0x47 ∷ 0x9F ∷ 0xFF ∷ 0x10 ∷ []) ∷ last ∷ []) ≡ []
  after_error : given (first ∷ raw (0x47 ∷ 0x80 ∷ 0 ∷ []) ∷ first ∷ last ∷ []) ≡ long ∷ []
  -- "Adaptation-only packets are skipped, their counter unread"
  skipped : given (first ∷ raw (0x47 ∷ 0x40 ∷ 0x21 ∷ 0x27 ∷ 183 ∷ []) ∷ last ∷ []) ≡ long ∷ []
  -- control 11 with length 183 is an empty payload whose counter counts; with the start indicator it is 34
  empty : given (first ∷ raw (0x47 ∷ 0 ∷ 0x21 ∷ 0x30 ∷ 183 ∷ []) ∷ packet_of false 1 (drop 183 long) ∷ []) ≡ long ∷ []
  pointerless : unpacking 0 fresh (raw (0x47 ∷ 0x40 ∷ 0x21 ∷ 0x30 ∷ 183 ∷ [])) ≡ refuses PastPacket
  -- a pointer to the packet's very end points at no byte of it
  very_end : unpacking 0 fresh (raw (0x47 ∷ 0x40 ∷ 0x21 ∷ 0x10 ∷ 183 ∷ [])) ≡ refuses PastPacket
  -- adaptation control 00; scrambled; another PID
  reserved : unpacking 0 fresh (raw (0x47 ∷ 0 ∷ 0x21 ∷ 0 ∷ [])) ≡ refuses PastPacket
  scrambled : unpacking 0 fresh (raw (0x47 ∷ 0 ∷ 0x21 ∷ 0x50 ∷ [])) ≡ refuses Scrambled
  other : unpacking 0 fresh (raw (0x47 ∷ 0 ∷ 0x22 ∷ 0x10 ∷ [])) ≡ refuses OtherPid
  -- "several sections in one packet", stuffing behind them; the end of one before the pointer
  several : given (packet_of true 0 (0 ∷ short ++ short) ∷ []) ≡ short ∷ short ∷ []
  before_pointer : given (first ∷ packet_of true 0 (17 ∷ drop 183 long ++ short) ∷ []) ≡ long ∷ short ∷ []
  -- "a pointer met too soon": that same pointer is the next one
  too_soon : given (first ∷ packet_of true 0 (16 ∷ take 16 (drop 183 long) ++ short) ∷ []) ≡ short ∷ []
  -- FF at the pointer is stuffing to the packet's end
  stuffed : given (packet_of true 0 (0 ∷ 0xFF ∷ short) ∷ []) ≡ []
  -- "a section_length above 4,093": the rest of that packet is skipped
  too_long_lem : given (packet_of true 0 (0 ∷ short ++ 0xFD ∷ 0xFF ∷ 0xFE ∷ short) ∷ []) ≡ short ∷ []
  -- "then 21": the sections of the packet together; nothing changes, not even the counter
  too_small : unpacking 5 fresh (packet_of true 0 (0 ∷ short ++ short)) ≡ refuses OutputTooSmall

readings : Readings
unfolding given_by unpacking_all and_then more unpacking verdict_on carrying fitting is_repeat same_bytes follows going_on fresh held_after repeated_once
    read_on ended ahead gone_on longer begun begun_in before nothing at_stuffing too_long is_whole framed section_length word joined
    judged has_error pid scrambling control counter payload_at pointed_at in_place starts packet_of header start_byte packed continued next
readings =
    record {
      packs = refl;
      whole = refl;
      repeated = refl;
      repeated_twice = refl;
      repeated_last = refl;
      gap = refl;
      own_pointer = refl;
      error = refl;
      after_error = refl;
      skipped = refl;
      empty = refl;
      pointerless = refl;
      very_end = refl;
      reserved = refl;
      scrambled = refl;
      other = refl;
      several = refl;
      before_pointer = refl;
      too_soon = refl;
      stuffed = refl;
      too_long_lem = refl;
      too_small = refl;
    }
