-- What a reader has to believe of the calls on the road: the cutter's, the packer's and the unpacker's, and sections taken out of bytes one by one.
use Rattle.std.specs.Prelude.{ℕ, zero, suc, ◌+◌, ◌/◌, ◌%◌, ◌≤◌, List, [], ◌∷◌, ◌++◌, ◌≡◌, length, take, drop, Ok}
use Rattle.section_reader.specs.Section.{stated_length}
use Rattle.packet.specs.Sizes.{packet_bytes, counter_most}
use Rattle.packet_memory.specs.Memory.{fresh}
use Rattle.packet_memory.specs.State.{memory_of}
use Rattle.packet_writer.specs.Answers.{packed_of, packets_over}
use Rattle.packet_arrival.specs.Served.{Served}

-- a call of the packer for each section, "each from the counter after the last packet's", and all the bytes that they wrote, in order
abbrev pub PackedByCalls : ℕ → List (List ℕ) → List ℕ → Type 0
PackedByCalls counter [] stream = stream ≡ []
PackedByCalls counter (s ∷ ss) stream =
    (out : List ℕ) × (n : ℕ) × (more : List ℕ) × (packed_of counter s out ≡ Ok n) × (stream ≡ take n (packets_over counter s out) ++ more)
    × PackedByCalls ((counter + n / packet_bytes) % 16) ss more

-- the first n packets of a stream, and all of them: 188 bytes each
unfoldable pub packets_in : ℕ → List ℕ → List (List ℕ)
packets_in zero stream = []
packets_in (suc n) stream = take packet_bytes stream ∷ packets_in n (drop packet_bytes stream)

abbrev pub packets_of : List ℕ → List (List ℕ)
packets_of stream = packets_in (length stream / packet_bytes) stream

-- sections taken out of bytes from the front on, each as long as its section_length says, until no byte is left
abbrev pub TakenOut : List ℕ → List (List ℕ) → Type 0
TakenOut bytes [] = bytes ≡ []
TakenOut bytes (s ∷ ss) = (n : ℕ) × (stated_length bytes ≡ Ok n) × (s ≡ take n bytes) × TakenOut (drop n bytes) ss

-- the packer is called for each section that is sent, the unpacker for each packet of the stream, from a fresh state on, and the sections got
-- are taken out of the bytes that it gave
pub record PacketCalls (sent got : List (List ℕ)) : Type 0 where
  pub counter : ℕ
  pub low : counter ≤ counter_most
  pub stream : List ℕ
  pub packed : PackedByCalls counter sent stream
  pub room : ℕ
  pub enough : 4096 ≤ room
  pub state : List ℕ
  pub clean : memory_of state ≡ fresh
  pub given : List ℕ
  pub unpacked : Served room state (packets_of stream) given
  pub taken_out : TakenOut given got
