-- `teaching_questions::first_contradiction` meets its contract: those passed are undisputed, until one is found that contradicts one of them.
use Rattle.teaching_rows.proofs.Rows.{row_shorter}
use Rattle.teaching_questions.proofs.Undisputed.{calm_begin, calm_end, calm_found, calm_on}
use Rattle.teaching_questions.proofs.first_contradiction.Goals as goal

pub loop-s-init : goal.loop-s-init
loop-s-init c = calm_begin _ _

pub loop-s-smaller : goal.loop-s-smaller
loop-s-smaller c = row_shorter c.in-Some.ensures

pub returns-then-contradicts_one : goal.returns-then-contradicts_one
returns-then-contradicts_one c =
    calm_found _ _ _ c.loop-s.invariant _ _ c.in-Some.ensures _ c.contradicts_one.ensures c.if-contradicts_one.true

pub loop-s-preserved : goal.loop-s-preserved
loop-s-preserved c = calm_on _ _ _ c.loop-s.invariant _ _ c.in-Some.ensures _ c.contradicts_one.ensures c.if-contradicts_one.false

pub returns : goal.returns
returns c = calm_end _ _ _ c.loop-s.invariant c.in_default.ensures
