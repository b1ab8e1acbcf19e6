-- `body_pen::pen_told` meets its contract: the range leaves out no number.
use mathlib.Core.Path.{◌∙◌}
use native.Mathlib.Omega.{arith}
use Rattle.body_pen.proofs.Numbers.{alike_counted, number_all}
use Rattle.body_pen.proofs.pen_told.Goals as goal

pub returns : goal.returns
returns c pool = let a = c.args in
    c.pen_told_among.ensures pool ∙ alike_counted (number_all a.w (omega arith) pool _) a.x
