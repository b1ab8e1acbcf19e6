-- `gathering_state::tally_of` meets its contract. The loop's invariant: what is found so far, with what is left to find, is what there is to find.
use Prim.Native.Nat.{◌≤◌, ◌+◌, ◌*◌, max}
use mathlib.Core.Path.{◌≡◌}
use lib.ListN.{length, drop}
use Rattle.gathering_state.specs.Lists.{greatest, total, held_count}
use Rattle.gathering_state.proofs.tally_of.Given as goal

abbrev pub invariant-loop-n : goal.invariant-loop-n
invariant-loop-n l =
    (l.n-index ≤ length l.s) × (greatest l.s ≡ max l.most (greatest (drop l.n-index l.s))) × (held_count l.s ≡ l.held + held_count (drop l.n-index l.s)) × (l.held ≤ l.n-index)
    × (total l.s ≡ l.bytes + total (drop l.n-index l.s)) × (l.bytes ≤ 65535 * l.n-index)
