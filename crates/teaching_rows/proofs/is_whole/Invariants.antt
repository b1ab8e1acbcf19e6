-- `teaching_rows::is_whole` meets its contract: what the rows passed take and what those still to come take is what all of them take.
use Prim.Native.Nat.{◌+◌}
use mathlib.Core.Path.{◌≡◌}
use lib.ListN.{length}
use Rattle.teaching_rows.proofs.Rows.{taken}
use Rattle.teaching_rows.proofs.is_whole.Given as goal

abbrev pub invariant-loop-string : goal.invariant-loop-string
invariant-loop-string l = taken l.rows + length l.rest ≡ taken l.rest + length l.rows

abbrev pub decreases-loop-string : goal.decreases-loop-string
decreases-loop-string l = length l.rest
