-- `body_numbers::number_at` meets its contract: a number of one byte is the byte, and one of more is read as such.
use mathlib.Core.Path.{◌≡◌, sym, ap, ◌∙◌}
use native.Mathlib.Omega.{arith}
use Rattle.body_formats.specs.Format.{number_at}
use Rattle.body_numbers.proofs.Numbers.{number_one}
use Rattle.body_numbers.proofs.number_at.Goals as goal

pub returns-then-w-eq1 : goal.returns-then-w-eq1
returns-then-w-eq1 c = number_one _ _ _ _ (omega arith) c.wide.ensures.0

pub returns-then-w-eq2 : goal.returns-then-w-eq2
returns-then-w-eq2 c = let two : c.args.w ≡ 2 = omega arith in
    c.two_bytes.ensures.0 ∙ ap (number_at c.args.s.now c.args.p) (sym two)
