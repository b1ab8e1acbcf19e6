-- `body_pen::pen_told_among` meets its contract: its number is one beside no reserved bits.
use mathlib.Core.Path.{◌∙◌}
use native.Mathlib.Omega.{arith}
use Rattle.body_pen.proofs.Numbers.{alike_counted, reserved_none}
use Rattle.body_pen.proofs.pen_told_among.Goals as goal

pub returns : goal.returns
returns c pool = let a = c.args in
    c.pen_reserved_among.ensures pool ∙ alike_counted (reserved_none a.w a.lo a.hi (omega arith) pool _) a.x
