-- `gathering_state::total_of` meets its contract. The loop's invariant: the sum so far and the total of what is left make the whole.
use Prim.Native.Nat.{◌≤◌, ◌+◌, ◌*◌}
use mathlib.Core.Path.{◌≡◌}
use lib.ListN.{length, drop}
use Rattle.gathering_state.specs.Lists.{total}
use Rattle.gathering_state.proofs.total_of.Given as goal

abbrev pub invariant-loop-n : goal.invariant-loop-n
invariant-loop-n l = (l.n-index ≤ length l.s) × (total l.s ≡ l.sum + total (drop l.n-index l.s)) × (l.sum ≤ 65535 * l.n-index)
