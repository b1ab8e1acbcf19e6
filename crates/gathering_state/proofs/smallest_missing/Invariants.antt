-- `gathering_state::smallest_missing` meets its contract. The loop's invariant: the numbers before k are held, so the smallest missing one is k or stands after it.
use Prim.Native.Nat.{◌+◌}
use mathlib.Core.Path.{◌≡◌}
use lib.ListN.{length, drop}
use Rattle.gathering_state.specs.Lists.{smallest_missing}
use Rattle.gathering_state.proofs.smallest_missing.Given as goal

abbrev pub invariant-loop-k : goal.invariant-loop-k
invariant-loop-k l = (l.smallest ≡ length l.s) × (smallest_missing l.s ≡ l.k + smallest_missing (drop l.k l.s))
