-- `teaching_questions::missing_count` meets its contract: after k turns it is how many of the numbers below k have not come.
use Prim.Native.Nat.{◌≤◌}
use mathlib.Core.Path.{◌≡◌}
use Rattle.teaching_questions.specs.Questions.{absent_count}
use Rattle.teaching_questions.proofs.Walking.{sections_in}
use Rattle.teaching_questions.proofs.missing_count.Given as goal

abbrev pub invariant-loop-k : goal.invariant-loop-k
invariant-loop-k l = (l.missing ≤ l.k) × (l.missing ≡ absent_count l.k (sections_in l.t l.rows))
