-- `teaching_questions::smallest_missing` meets its contract: the first missing number from k on is the first of all, as long as every one before k has come.
use Prim.Native.Nat.{◌+◌, ◌-◌}
use mathlib.Core.Path.{◌≡◌}
use Rattle.teaching_questions.specs.Questions.{absent_from}
use Rattle.teaching_questions.proofs.Walking.{sections_in}
use Rattle.teaching_questions.proofs.smallest_missing.Given as goal

abbrev pub invariant-loop-k : goal.invariant-loop-k
invariant-loop-k l =
    absent_from l.k (l.t.last + 1 - l.k) (sections_in l.t l.rows) ≡ absent_from 0 (l.t.last + 1) (sections_in l.t l.rows)
