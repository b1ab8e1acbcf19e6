-- `two_lanes` meets its contract: each turn takes eight bytes out of one lane and lets them wait in the other.
use Prim.Native.Nat.{◌-◌, ◌≤◌}
use lib.ListN.{length}
use Rattle.crc.specs.Lanes.{Read}
use Rattle.crc.proofs.Braid.{Apart}
use Rattle.crc.proofs.two_lanes.Given as goal

abbrev pub invariant-loop-i : goal.invariant-loop-i
invariant-loop-i l =
    (l.i ≤ length l.s) × (Apart 0x04C11DB7 0xFFFFFFFF l.s l.i l.next l.later) × (Read 0x04C11DB7 0xFFFFFFFF l.s l.i l.next 0 l.later)

abbrev pub decreases-loop-i : goal.decreases-loop-i
decreases-loop-i l = length l.s - l.i
