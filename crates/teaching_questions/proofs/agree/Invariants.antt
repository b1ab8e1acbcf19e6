-- `teaching_questions::agree` meets its contract: those still to come agree if all do, until one is found that contradicts a later one.
use mathlib.Core.Path.{◌≡◌}
use lib.ListN.{length}
use Rattle.gathering_account.specs.Answering.{agreeing}
use Rattle.teaching_questions.specs.Questions.{sections_left}
use Rattle.teaching_questions.proofs.Walking.{sections_in}
use Rattle.teaching_questions.proofs.agree.Given as goal

abbrev pub invariant-loop-x : goal.invariant-loop-x
invariant-loop-x l = agreeing (sections_left l.left) ≡ agreeing (sections_in l.fn.t l.rows)

abbrev pub decreases-loop-x : goal.decreases-loop-x
decreases-loop-x l = length (sections_left l.left)
