-- `teaching_questions::missing_count` meets its contract: after k turns it is how many of the numbers below k have not come.
use mathlib.Core.Path.{sym, ◌∙◌}
use native.Mathlib.Omega.{arith}
use Rattle.teaching_questions.proofs.Missing.{count_start, count_one, count_none}
use Rattle.teaching_questions.proofs.missing_count.Goals as goal
use Rattle.teaching_questions.proofs.missing_count.Goals.{then-not-has_come, else-not-has_come}

pub loop-k-init : goal.loop-k-init
loop-k-init c = (omega arith, count_start _)

pub loop-k-preserved : goal.loop-k-preserved
loop-k-preserved c =
    let here = c.loop-k in
    let known = sym c.has_come.ensures in
    elim c.if-not-has_come.branch [
      | then-not-has_come w ↦ (omega arith, w.missing-is ∙ count_one _ here.k here.missing here.invariant.1 (known ∙ w.if-not-has_come.true))
      | else-not-has_come w ↦ (omega arith, w.missing-is ∙ count_none _ here.k here.missing here.invariant.1 (known ∙ w.if-not-has_come.false))
    ]
