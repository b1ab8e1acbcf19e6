-- `teaching_hand_out::body_length` meets its contract: after k turns it is the length of the contents of the numbers below k.
use Prim.Native.Nat.{◌*◌, ◌≤◌}
use mathlib.Core.Path.{◌≡◌}
use lib.ListN.{length}
use Rattle.gathering_account.specs.Account.{in_order}
use Rattle.teaching_questions.proofs.Walking.{sections_in}
use Rattle.teaching_hand_out.proofs.body_length.Given as goal

abbrev pub invariant-loop-k : goal.invariant-loop-k
invariant-loop-k l = (l.n ≤ l.k * 4084) × (l.n ≡ length (in_order l.k (sections_in l.t l.rows)))
