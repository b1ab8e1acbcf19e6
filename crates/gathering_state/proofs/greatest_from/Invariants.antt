-- `gathering_state::greatest_from` meets its contract. The loop's invariant: what was to be found is the greatest so far, or that of what is left.
use Prim.Native.Nat.{max}
use mathlib.Core.Path.{◌≡◌}
use lib.ListN.{drop}
use Rattle.gathering_state.specs.Lists.{greatest}
use Rattle.gathering_state.proofs.greatest_from.Given as goal

abbrev pub invariant-loop-i : goal.invariant-loop-i
invariant-loop-i l = greatest (drop l.from l.s) ≡ max l.most (greatest (drop l.i l.s))
