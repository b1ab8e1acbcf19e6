-- `crc32` meets its contract: what two lanes leave comes together in a turn or two, and the last bytes go in one a turn.
use Prim.Native.Nat.{◌-◌, ◌≤◌}
use lib.ListN.{length}
use Rattle.crc.specs.Lanes.{Read}
use Rattle.crc.proofs.crc32.Given as goal

abbrev pub invariant-loop-i : goal.invariant-loop-i
invariant-loop-i l = (l.i ≤ length l.s) × (Read 0x04C11DB7 0xFFFFFFFF l.s l.i l.next l.after l.later)

abbrev pub decreases-loop-i : goal.decreases-loop-i
decreases-loop-i l = length l.s - l.i
