-- `teaching_questions::first_contradiction` meets its contract: those passed are undisputed, until one is found that contradicts one of them.
use lib.ListN.{length}
use Rattle.teaching_questions.proofs.Undisputed.{Calm}
use Rattle.teaching_questions.proofs.first_contradiction.Given as goal

abbrev pub invariant-loop-s : goal.invariant-loop-s
invariant-loop-s l = Calm l.t l.rows l.rest

abbrev pub decreases-loop-s : goal.decreases-loop-s
decreases-loop-s l = length l.rest
