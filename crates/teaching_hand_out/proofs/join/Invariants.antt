-- `teaching_hand_out::join` meets its contract: after k turns the contents of the numbers below k stand at the start of the output.
use mathlib.Core.Path.{◌≡◌}
use lib.ListN.{length}
use Rattle.ground_placing.specs.Placed.{placed}
use Rattle.gathering_account.specs.Account.{in_order}
use Rattle.teaching_questions.proofs.Walking.{sections_in}
use Rattle.teaching_hand_out.proofs.join.Given as goal

abbrev pub invariant-loop-k : goal.invariant-loop-k
invariant-loop-k l =
    (l.n ≡ length (in_order l.k (sections_in l.t l.rows))) × (l.out ≡ placed l.initial.out 0 (in_order l.k (sections_in l.t l.rows)))
