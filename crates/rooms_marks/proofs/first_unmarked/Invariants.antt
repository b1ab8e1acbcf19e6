-- `rooms_marks::first_unmarked` meets its contract: no room before r is free, so the first free one is r or stands after it.
use Prim.Native.Nat.{◌≤◌, ◌+◌, ◌-◌}
use mathlib.Core.Path.{◌≡◌}
use Rattle.rooms_marks.specs.Marks.{free_mark}
use Rattle.rooms_marks.proofs.first_unmarked.Given as goal

abbrev pub invariant-loop-r : goal.invariant-loop-r
invariant-loop-r l = (1 ≤ l.r) × (l.r ≤ l.n + 1) × (free_mark l.marks 1 l.n ≡ free_mark l.marks l.r (l.n + 1 - l.r))
