-- `teaching_questions::Sections::next` meets its contract: the strings passed are no sections of the table.
use mathlib.Core.Path.{◌≡◌}
use lib.ListN.{length}
use Rattle.teaching_questions.specs.Questions.{sections_left}
use Rattle.teaching_questions.proofs.SectionsIterator.next.Given as goal

abbrev pub invariant-loop-s : goal.invariant-loop-s
invariant-loop-s l = sections_left l.self ≡ sections_left l.fn.self

abbrev pub decreases-loop-s : goal.decreases-loop-s
decreases-loop-s l = length l.self.rows.now
