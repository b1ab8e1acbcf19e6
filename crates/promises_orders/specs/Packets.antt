-- What a reader has to believe of the packer's and the unpacker's refusals: M-106's order, each number with its condition.
use Rattle.std.specs.Prelude.{ℕ, Bool, not, ◌&&◌, List, [], ◌∷◌, ◌++◌, ◌≡◌, eqb, ltb, length, Result, Ok}
use Rattle.ground_refusal.specs.declared.Refusal.{Refusal}
use Rattle.ground_refusal.specs.declared.Refusal.TheVariants.{OutsideSet, OutputTooSmall, NotAPacket, NoSyncByte, OtherPid, Scrambled, PastPacket}
use Rattle.packet.specs.Fields.{byte, has_error, pid, scrambling, control, in_place}
use Rattle.packet_frames.specs.Framing.{joined}
use Rattle.packet_plan.specs.Reading.{read_on}
use Rattle.packet_memory.specs.Memory.{is_repeat, going_on}
use Rattle.packet_memory.specs.State.{memory_of}
use Rattle.packet_writer.specs.Packing.{packed, laid}
use Rattle.promises_orders.specs.Order.{Line, ◌when◌}
use Rattle.promises_orders.specs.Sections.{section_lines}

-- "The packer: 1 to 7, 19 (counter above 15), 21"
unfoldable pub packer_lines : ℕ → List ℕ → List ℕ → List Line
packer_lines counter section out =
    section_lines section
    ++ OutsideSet 0 when ltb 15 counter
    ∷ OutputTooSmall when ltb (length out) (length (laid (packed counter section)))
    ∷ []

-- the unpacker tells how many bytes of sections it gives
abbrev pub IsSections : Result ℕ Refusal → Type 0
IsSections a = (n : ℕ) × (a ≡ Ok n)

-- a packet whose error bit is set, or that has no payload, or that repeats the last one, is not read
unfoldable pub is_read : List ℕ → List ℕ → Bool
is_read s p = not (eqb (control p) 2) && not (is_repeat (memory_of s) p)

-- "Refusals, in this order before all of 01's: 30 not 188 bytes, 31 no sync byte, 32 other PID, 33 scrambled, 34 pointer or adaptation field past
-- the packet's end, or adaptation control 00; then 21"; "an error bit (looked at after the sync byte [..])" is none of them, and nothing else is
-- read of such a packet
unfoldable pub unpacker_lines : List ℕ → List ℕ → List ℕ → List Line
unpacker_lines s p out =
    NotAPacket when not (eqb (length p) 188)
    ∷ NoSyncByte when not (eqb (byte p 0) 0x47)
    ∷ OtherPid when (not (has_error p) && not (eqb (pid p) 0x21))
    ∷ Scrambled when (not (has_error p) && not (eqb (scrambling p) 0))
    ∷ PastPacket when (not (has_error p) && not (in_place p))
    ∷ OutputTooSmall when (not (has_error p) && is_read s p && ltb (length out) (length (joined (read_on (going_on (memory_of s) p) p).sections)))
    ∷ []
