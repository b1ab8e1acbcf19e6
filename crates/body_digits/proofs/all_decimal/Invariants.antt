-- `body_digits::all_decimal` meets its contract: the bytes so far pass, and the last eight decide; which of them were tested before does not matter.
use Prim.Native.Nat.{◌-◌, ◌≤◌}
use mathlib.Core.Path.{◌≡◌, ◌∙◌}
use mathlib.Core.Bool.{true}
use Rattle.body_digits.proofs.Digits.{digits_at}
use Rattle.body_digits.proofs.all_decimal.Given as goal

abbrev pub invariant-loop-j : goal.invariant-loop-j
invariant-loop-j l = (l.j ≤ l.n) × (digits_at l.s l.p l.j ≡ true)

abbrev pub decreases-loop-j : goal.decreases-loop-j
decreases-loop-j l = l.n - l.j
