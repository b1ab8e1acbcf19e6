-- `by_fours` meets its contract: the register is always that of the bytes passed, and the last bytes are passed by their nibbles.
use Prim.Native.Nat.{◌-◌, ◌≤◌}
use lib.ListN.{length}
use Rattle.crc.proofs.Walk.{Walk}
use Rattle.crc.proofs.by_fours.Given as goal

abbrev pub invariant-loop-i : goal.invariant-loop-i
invariant-loop-i l = (l.i ≤ length l.s) × Walk 16 0x1021 l.reg l.s l.i l.r

abbrev pub decreases-loop-i : goal.decreases-loop-i
decreases-loop-i l = length l.s - l.i
