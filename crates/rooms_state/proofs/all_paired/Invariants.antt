-- `rooms_state::all_paired` meets its contract: those before i are paired, so all are if the rest is.
use Prim.Native.Nat.{◌≤◌}
use mathlib.Core.Path.{◌≡◌}
use lib.ListN.{length, drop}
use Rattle.rooms_state.specs.State.{matched}
use Rattle.rooms_state.proofs.all_paired.Given as goal

abbrev pub invariant-loop-i : goal.invariant-loop-i
invariant-loop-i l = (l.i ≤ length l.held) × (matched l.n l.held l.rooms ≡ matched l.n (drop l.i l.held) (drop l.i l.rooms))
