-- What a reader has to believe of a transport packet's bits (ISO/IEC 13818-1): where each field stands.
use Rattle.std.specs.Prelude.{ℕ, ◌+◌, ◌*◌, ◌/◌, ◌%◌, Bool, not, ◌&&◌, ◌||◌, List, eqb, leb, ltb, get_or, if◌then◌else◌}
use Rattle.packet.specs.Sizes.{packet_bytes}

-- byte i
abbrev pub byte : List ℕ → ℕ → ℕ
byte p i = get_or p i 0

-- transport_error_indicator: the top bit of byte 1
unfoldable pub has_error : List ℕ → Bool
has_error p = leb 0x80 (byte p 1)

-- payload_unit_start_indicator, the bit below it; the priority bit, below that, is ignored
unfoldable pub starts : List ℕ → Bool
starts p = eqb (byte p 1 / 64 % 2) 1

-- PID: 13 bits
unfoldable pub pid : List ℕ → ℕ
pid p = byte p 1 % 32 * 256 + byte p 2

-- transport_scrambling_control: 00 for a clear payload
unfoldable pub scrambling : List ℕ → ℕ
scrambling p = byte p 3 / 64

-- adaptation_field_control: 00 reserved, 01 payload, 10 adaptation field, 11 adaptation field and payload
unfoldable pub control : List ℕ → ℕ
control p = byte p 3 / 16 % 4

-- continuity_counter
unfoldable pub counter : List ℕ → ℕ
counter p = byte p 3 % 16

-- where the payload begins: after the header, or after the adaptation field, whose length stands in byte 4
unfoldable pub payload_at : List ℕ → ℕ
payload_at p = if eqb (control p) 1 then 4 else 5 + byte p 4

-- where the pointer field, the payload's first byte, points: it counts the bytes between itself and its target
unfoldable pub pointed_at : List ℕ → ℕ
pointed_at p = payload_at p + 1 + byte p (payload_at p)

-- not "pointer or adaptation field past the packet's end, or adaptation control 00". A pointer to the very end points at no byte of the packet.
unfoldable pub in_place : List ℕ → Bool
in_place p =
    not (eqb (control p) 0) && leb (payload_at p) packet_bytes
    && (eqb (control p) 2 || not (starts p) || (ltb (payload_at p) packet_bytes && ltb (pointed_at p) packet_bytes))
