-- `teaching_table::fixed_table` meets its contract: what is found so far stands for the strings passed, turn after turn.
use lib.ListN.{length}
use Rattle.gathering_state.specs.State.{has_room}
use Rattle.teaching_table.proofs.Fixing.{Walked}
use Rattle.teaching_table.proofs.fixed_table.Given as goal

abbrev pub invariant-loop-s : goal.invariant-loop-s
invariant-loop-s l = Walked (has_room l.store) l.rows l.rest l.fixed

abbrev pub decreases-loop-s : goal.decreases-loop-s
decreases-loop-s l = length l.rest
