-- `body_digits::by_bytes` meets its contract: the bytes so far pass.
use Prim.Native.Nat.{◌-◌, ◌≤◌}
use mathlib.Core.Path.{◌≡◌, ◌∙◌}
use mathlib.Core.Bool.{true}
use Rattle.body_digits.proofs.Digits.{digits_at}
use Rattle.body_digits.proofs.by_bytes.Given as goal

abbrev pub invariant-loop-k : goal.invariant-loop-k
invariant-loop-k l = digits_at l.s l.p l.k ≡ true
