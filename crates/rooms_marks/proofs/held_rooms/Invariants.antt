-- `rooms_marks::held_rooms` meets its contract. The loop's invariant: those held so far, and those among the rest, are all that are held.
use Prim.Native.Nat.{◌+◌, ◌≤◌}
use mathlib.Core.Path.{◌≡◌}
use lib.ListN.{drop}
use Rattle.rooms_marks.specs.Rooms.{held_rooms}
use Rattle.rooms_marks.proofs.held_rooms.Given as goal

abbrev pub invariant-loop-k : goal.invariant-loop-k
invariant-loop-k l = (l.held ≤ l.k) × (l.held + held_rooms (drop l.k l.rooms) ≡ held_rooms l.rooms)
