-- `body_digits::all_among` meets its contract: the bytes from here on are as they must be where all are.
use Prim.Native.Nat.{◌+◌, ◌-◌}
use mathlib.Core.Path.{◌≡◌}
use mathlib.Core.Bool.{◌&&◌}
use lib.ListN.{take, drop}
use lib.Dec.{leb}
use Rattle.body_formats.specs.Format.{every}
use Rattle.body_digits.proofs.all_among.Given as goal

abbrev pub invariant-loop-k : goal.invariant-loop-k
invariant-loop-k l = every (λ x. leb l.lo x && leb x l.hi) (take l.n (drop l.p l.s)) ≡ every (λ x. leb l.lo x && leb x l.hi) (take (l.p + l.n - l.k) (drop l.k l.s))
