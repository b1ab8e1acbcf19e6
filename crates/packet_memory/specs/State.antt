-- What a reader has to believe of the bytes that the unpacker keeps its memory in: each string of 4,286 bytes means a memory.
use Rattle.std.specs.Prelude.{ℕ, ◌+◌, ◌-◌, ◌*◌, Bool, true, ◌&&◌, ◌||◌, List, [], ◌∷◌, eqb, leb, ltb, length, take, drop, if◌then◌else◌}
use Rattle.ground_equal.specs.Same.{same_bytes}
use Rattle.packet.specs.Sizes.{packet_bytes}
use Rattle.packet.specs.Fields.{byte, starts, payload_at, pointed_at}
use Rattle.packet.specs.Judging.{judged, is_carrying}
use Rattle.packet_frames.specs.Framing.{is_begun, unfinished_most, begun}
use Rattle.packet_memory.specs.Memory.{Memory, fresh}

-- ---- where each thing stands

-- byte 0: 0 no last packet, 1 a last packet, 2 one whose repeat has been ignored; bytes 1 and 2: how many bytes of an unfinished section are kept;
-- then the last packet; then the unfinished section
abbrev pub last_at : ℕ
last_at = 3

abbrev pub unfinished_at : ℕ
unfinished_at = 191

abbrev pub state_bytes : ℕ
state_bytes = 4286

unfoldable pub kept_of : List ℕ → ℕ
kept_of s = byte s 1 * 256 + byte s 2

unfoldable pub last_of : List ℕ → List ℕ
last_of s = take packet_bytes (drop last_at s)

unfoldable pub unfinished_of : List ℕ → List ℕ
unfinished_of s = take (kept_of s) (drop unfinished_at s)

-- ---- which states the unpacker can have left

-- is it nothing, or longer than the payload, which it ends with?
unfoldable pub ends_with : List ℕ → List ℕ → Bool
ends_with [] more = true
ends_with (b ∷ bs) more =
    ltb (length more) (length (b ∷ bs)) && same_bytes (drop (length (b ∷ bs) - length more) (b ∷ bs)) more

-- can the packet p have left the bytes u unfinished? With a pointer it leaves what begins there; without one, all of its payload or nothing.
unfoldable pub may_leave : List ℕ → List ℕ → Bool
may_leave p u =
    if starts p then same_bytes u (begun (drop (pointed_at p) p)).unfinished else
    ends_with u (drop (payload_at p) p)

unfoldable pub is_possible : List ℕ → Bool
is_possible s =
    (eqb (byte s 0) 1 || eqb (byte s 0) 2) && is_carrying (judged (last_of s)) && leb (kept_of s) unfinished_most && is_begun (unfinished_of s)
    && may_leave (last_of s) (unfinished_of s)

-- a state that the unpacker can't have left is read as one that holds nothing; in a fresh one nothing but byte 0 is looked at
unfoldable pub memory_of : List ℕ → Memory
memory_of s =
    if is_possible s then record { unfinished = unfinished_of s; last = last_of s; repeated = eqb (byte s 0) 2 } else
    fresh
