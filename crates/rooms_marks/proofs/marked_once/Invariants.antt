-- `rooms_marks::marked_once` meets its contract: no room before r is held twice, so all are held once if those from r on are.
use Prim.Native.Nat.{◌≤◌, ◌+◌, ◌-◌}
use mathlib.Core.Path.{◌≡◌}
use Rattle.rooms_marks.specs.Marks.{all_once}
use Rattle.rooms_marks.proofs.marked_once.Given as goal

abbrev pub invariant-loop-r : goal.invariant-loop-r
invariant-loop-r l = (1 ≤ l.r) × (l.r ≤ l.n + 1) × (all_once l.marks 1 l.n ≡ all_once l.marks l.r (l.n + 1 - l.r))
