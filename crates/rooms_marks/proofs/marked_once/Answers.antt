-- `rooms_marks::marked_once` meets its contract: no room before r is held twice, so all are held once if those from r on are.
use mathlib.Core.Path.{sym, ◌∙◌}
use native.Mathlib.Omega.{arith}
use Rattle.rooms_marks.proofs.Marking.{once_start, once_stop, once_step, once_end}
use Rattle.rooms_marks.proofs.marked_once.Goals as goal

pub loop-r-init : goal.loop-r-init
loop-r-init c = (omega arith, omega arith, once_start _ c.args.n 1)

pub returns-then-marks-r-ge2 : goal.returns-then-marks-r-ge2
returns-then-marks-r-ge2 c = sym (c.loop-r.invariant.2 ∙ once_stop _ _ _ (omega arith) (omega arith))

pub loop-r-preserved : goal.loop-r-preserved
loop-r-preserved c = (omega arith, omega arith, c.loop-r.invariant.2 ∙ once_step _ _ _ (omega arith) (omega arith))

pub returns : goal.returns
returns c = sym (c.loop-r.invariant.2 ∙ once_end _ _ _ (omega arith))
