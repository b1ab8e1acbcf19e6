-- `screen_code::is_listed` meets its contract. The loop's invariant: what is left decides, and it lies in the body.
use Prim.Native.Nat.{◌-◌}
use mathlib.Core.Path.{◌≡◌}
use Rattle.screen_code.specs.Code.{InBody, listed}
use Rattle.screen_code.proofs.is_listed.Given as goal

abbrev pub invariant-loop-k : goal.invariant-loop-k
invariant-loop-k l = InBody l.s l.at (l.n - l._k) × (listed l.s l.p l.n l.own ≡ listed l.s l.at (l.n - l._k) l.own)
