-- `ground_copying::copy_long` meets its contract: the bytes so far stand, and then the rest.
use Prim.Native.Nat.{◌-◌, ◌≤◌}
use mathlib.Core.Path.{◌≡◌}
use lib.ListN.{length, take}
use Rattle.ground_placing.specs.Placed.{placed}
use Rattle.ground_copying.proofs.copy_long.Given as goal

abbrev pub invariant-loop-i : goal.invariant-loop-i
invariant-loop-i l = (l.dst ≡ placed l.initial.dst l.at (take l.i l.src)) × (l.i ≤ l.n) × (length l.dst ≡ length l.initial.dst)

abbrev pub decreases-loop-i : goal.decreases-loop-i
decreases-loop-i l = l.n - l.i
