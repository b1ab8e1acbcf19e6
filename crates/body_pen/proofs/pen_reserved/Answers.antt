-- `body_pen::pen_reserved` meets its contract: the range leaves out no number.
use mathlib.Core.Path.{◌∙◌}
use native.Mathlib.Omega.{arith}
use Rattle.body_pen.proofs.Numbers.{alike_counted, reserved_all}
use Rattle.body_pen.proofs.pen_reserved.Goals as goal

pub returns : goal.returns
returns c pool = let a = c.args in
    c.pen_reserved_among.ensures pool ∙ alike_counted (reserved_all a.k a.w (omega arith) (omega arith) pool _) a.x
