-- Laws of the packer's call: what it writes of a good section, and how long that is.
use Prim.Native.Nat.{ℕ, ◌+◌, ◌-◌, ◌*◌, ◌/◌, ◌≤◌}
use Rattle.std.specs.Prelude.{Ok}
use mathlib.Core.List.{List}
use mathlib.Core.Path.{◌≡◌}
use native.Mathlib.Omega.{arith}
use borrow.Author.Tests.{le-ltb}
use lib.ListN.{length}
use Rattle.ground_numbers.proofs.Ranges.{within_known}
use Rattle.section_reader.specs.Section.{section_length, read_section}
use Rattle.section_reader.specs.declared.Heading.{Heading}
use Rattle.section_reader.proofs.Accepting.{accepted}
use Rattle.packet.specs.Sizes.{packet_bytes, counter_most}
use Rattle.packet_writer.specs.Packing.{next_room, packed, laid, writes, packing_if_room, packing_of, packing}
use Rattle.packet_writer.proofs.Packets.{packed_long}

-- ---- a good section that is packed

pub packs : (out section : List ℕ) (c n : ℕ) → n ≡ packet_bytes + packet_bytes * (length section / next_room) → n ≤ length out
    → packing_if_room (length out) (laid (packed c section)) ≡ writes (laid (packed c section))
unfolding packing_if_room
packs out section c n e h = rw (le-ltb (length out) (length (laid (packed c section))) (omega (arith, packed_long c section)))

pub packing_good : (room counter : ℕ) (section : List ℕ) (h : Heading) (n : ℕ) → read_section section ≡ Ok (h, n) → counter ≤ counter_most
    → packing room counter section ≡ packing_if_room room (laid (packed counter section))
unfolding packing packing_of
packing_good room counter section h n e l = rw (e, le-ltb counter_most counter l)

-- a good section is at most 4,096 bytes
pub good_short : (section : List ℕ) (found : Heading × ℕ) → read_section section ≡ Ok found → length section ≤ 4096
good_short section found e =
    let f = (accepted section found.0 found.1 e).framed in
    let w = f.whole in
    let l = (within_known 9 (section_length section) 4093 f.counted).1 in
    omega arith
