-- `rooms_marks::first_unmarked` meets its contract: no room before r is free, so the first free one is r or stands after it.
use mathlib.Core.Path.{sym, ◌∙◌}
use native.Mathlib.Omega.{arith}
use Rattle.rooms_marks.proofs.Marking.{free_start, free_step, free_end}
use Rattle.rooms_marks.proofs.first_unmarked.Goals as goal

pub loop-r-init : goal.loop-r-init
loop-r-init c = (omega arith, omega arith, free_start _ c.args.n 1)

pub loop-r-preserved : goal.loop-r-preserved
loop-r-preserved c = (omega arith, omega arith, c.loop-r.invariant.2 ∙ free_step _ _ _ (omega arith) (omega arith))

pub returns : goal.returns
returns c = sym (c.loop-r.invariant.2 ∙ free_end _ _ _ (omega arith))
