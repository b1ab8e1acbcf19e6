-- `salvage::next_good` meets its contract: from each place on, the bytes before the next section are those that are left to pass.
use Prim.Native.Nat.{◌+◌}
use mathlib.Core.Path.{◌≡◌}
use lib.ListN.{drop}
use Rattle.salvage.specs.Reading.{gap}
use Rattle.salvage.proofs.next_good.Given as goal

abbrev pub invariant-loop-at : goal.invariant-loop-at
invariant-loop-at l = l.at + gap (drop l.at l.s) ≡ l.from + gap (drop l.from l.s)
