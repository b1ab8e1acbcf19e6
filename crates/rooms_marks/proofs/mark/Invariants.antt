-- `rooms_marks::mark` meets its contract: the marks of all rooms are those set so far with the rest set on top.
use Prim.Native.Nat.{◌≤◌}
use mathlib.Core.Path.{◌≡◌}
use lib.ListN.{length, drop}
use Rattle.rooms_marks.specs.Marks.{marked}
use Rattle.rooms_marks.proofs.mark.Given as goal

abbrev pub invariant-loop-room : goal.invariant-loop-room
invariant-loop-room l = (l.room-index ≤ length l.rooms) × (length l.marks ≡ length l.fn.marks) × (marked l.fn.marks l.rooms ≡ marked l.marks (drop l.room-index l.rooms))
