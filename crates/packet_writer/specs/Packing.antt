-- What a reader has to believe of the packer: the packets that a section makes, and its refusals in their order.
use Rattle.std.specs.Prelude.{ℕ, zero, suc, ◌+◌, ◌-◌, ◌/◌, ◌%◌, Bool, true, false, List, [], ◌∷◌, ◌++◌, ltb, length, take, drop, replicate, if◌then◌else◌, Result, Ok, Err}
use Rattle.section_reader.specs.declared.Heading.{Heading}
use Rattle.ground_refusal.specs.declared.Refusal.{Refusal}
use Rattle.ground_refusal.specs.declared.Refusal.TheVariants.{OutsideSet, OutputTooSmall}
use Rattle.section_reader.specs.Section.{read_section}
use Rattle.packet.specs.Sizes.{sync_byte, our_pid, stuffing, counter_most}

-- ---- one packet

-- the bytes of a section in its first packet, behind the pointer, and in each after it
abbrev pub first_room : ℕ
first_room = 183

abbrev pub next_room : ℕ
next_room = 184

-- "start indicator", before the high bits of the PID, which are 0
unfoldable pub start_byte : Bool → ℕ
start_byte true = 0x40
start_byte false = 0

-- "sync 0x47, PID 0x0021, start indicator [..], four-bit continuity counter": no error, no priority, not scrambled, no adaptation field
unfoldable pub header : Bool → ℕ → List ℕ
header start counter = sync_byte ∷ start_byte start ∷ our_pid ∷ (0x10 + counter) ∷ []

-- "188 bytes", with "stuffing 0xFF after a section"
unfoldable pub packet_of : Bool → ℕ → List ℕ → List ℕ
packet_of start counter payload = header start counter ++ payload ++ replicate (next_room - length payload) stuffing

-- the counter of the packet after one
unfoldable pub next : ℕ → ℕ
next counter = (counter + 1) % 16

-- ---- a section

-- the packets that a section's bytes after its first packet need, k of them
unfoldable pub continued : ℕ → ℕ → List ℕ → List (List ℕ)
continued zero counter bytes = []
continued (suc k) counter bytes = packet_of false counter (take next_room bytes) ∷ continued k (next counter) (drop next_room bytes)

-- "Our packer starts each section in a fresh packet with pointer 0": the pointer and 183 bytes, then 184 bytes in each
unfoldable pub packed : ℕ → List ℕ → List (List ℕ)
packed counter section =
    packet_of true counter (0 ∷ take first_room section) ∷ continued (length section / next_room) (next counter) (drop first_room section)

-- the counter after n packets more
unfoldable pub after : ℕ → ℕ → ℕ
after zero counter = counter
after (suc n) counter = after n (next counter)

-- sections, "each from the counter after the last packet's"
unfoldable pub packed_all : ℕ → List (List ℕ) → List (List ℕ)
packed_all counter [] = []
packed_all counter (s ∷ ss) = packed counter s ++ packed_all (after (length (packed counter s)) counter) ss

-- packets one after the other
unfoldable pub laid : List (List ℕ) → List ℕ
laid [] = []
laid (p ∷ ps) = p ++ laid ps

-- ---- the packer's refusals

-- what the packer decides; its answer and its output follow from it
pub data Verdict : Type 0 where
  refuses : Refusal → Verdict
  writes : List ℕ → Verdict

-- 21: an output of `room` bytes is too small for the packets
unfoldable pub packing_if_room : ℕ → List ℕ → Verdict
packing_if_room room bytes = if ltb room (length bytes) then refuses OutputTooSmall else writes bytes

-- 19: "counter above 15"
unfoldable pub packing_of : Result (Heading × ℕ) Refusal → ℕ → ℕ → List ℕ → Verdict
packing_of (Err why) room counter section = refuses why
packing_of (Ok (h, n)) room counter section =
    if ltb counter_most counter then refuses (OutsideSet 0) else
    packing_if_room room (laid (packed counter section))

-- "The packer: 1 to 7, 19 (counter above 15), 21"
unfoldable pub packing : ℕ → ℕ → List ℕ → Verdict
packing room counter section = packing_of (read_section section) room counter section
