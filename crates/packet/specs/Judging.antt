-- What a reader has to believe of a packet by itself: refusals 30 to 34 in their order, the error bit, packets without a payload.
use Rattle.std.specs.Prelude.{ℕ, Bool, true, false, not, List, eqb, length, if◌then◌else◌, Result, Ok, Err}
use Rattle.ground_refusal.specs.declared.Refusal.{Refusal}
use Rattle.ground_refusal.specs.declared.Refusal.TheVariants.{NotAPacket, NoSyncByte, OtherPid, Scrambled, PastPacket}
use Rattle.packet.specs.declared.Judged.{Judged}
use Rattle.packet.specs.declared.Judged.TheVariants.{Damaged, Skipped, Carrying}
use Rattle.packet.specs.Sizes.{packet_bytes, sync_byte, our_pid}
use Rattle.packet.specs.Fields.{byte, has_error, pid, scrambling, control, in_place}

-- "Refusals, in this order before all of 01's: 30 not 188 bytes, 31 no sync byte, 32 other PID, 33 scrambled, 34 pointer or adaptation field past
-- the packet's end, or adaptation control 00"; "an error bit (looked at after the sync byte [..])"; "Adaptation-only packets are skipped"
unfoldable pub judged : List ℕ → Result Judged Refusal
judged p =
    if not (eqb (length p) packet_bytes) then Err NotAPacket else
    if not (eqb (byte p 0) sync_byte) then Err NoSyncByte else
    if has_error p then (Ok Damaged) else
    if not (eqb (pid p) our_pid) then Err OtherPid else
    if not (eqb (scrambling p) 0) then Err Scrambled else
    if not (in_place p) then Err PastPacket else
    if eqb (control p) 2 then (Ok Skipped) else
    Ok Carrying

-- is it a packet that the unpacker takes?
unfoldable pub is_carrying : Result Judged Refusal → Bool
is_carrying (Err r) = false
is_carrying (Ok Damaged) = false
is_carrying (Ok Skipped) = false
is_carrying (Ok Carrying) = true
