-- `body_pen::pen_identifier` meets its contract: once its digits are judged, the day that they are in the pool decides.
use mathlib.Core.Path.{sym, ◌∙◌}
use Rattle.ground_refusal.proofs.Exits.{passed_on}
use native.Mathlib.Omega.{arith}
use Rattle.body_pen.proofs.Leaves.{stopped}
use Rattle.body_pen.proofs.Identifiers.{identifier_stopped, identifier_laid, identifier_real, identifier_unreal}
use Rattle.body_pen.proofs.pen_identifier.Goals as goal

pub returns-in_err-size : goal.returns-in_err-size
returns-in_err-size c = passed_on c.from_residual.ensures ∙ stopped _ _ _ _ _ c.in_err-size.was

pub returns-in_err-past : goal.returns-in_err-past
returns-in_err-past c = passed_on c.from_residual-in_err-past.ensures ∙ identifier_stopped _ _ _ _ c.pen_digits.ensures _ c.in_err-past.was

pub offset_bounds-tape-k : goal.offset_bounds-tape-k
offset_bounds-tape-k c = omega (arith, (identifier_laid _ _ _ _ c.pen_digits.ensures _ _ c.in_ok-size.was _ c.in_ok-past.was).0)

pub bounds-tape-k : goal.bounds-tape-k
bounds-tape-k c = omega (arith, (identifier_laid _ _ _ _ c.pen_digits.ensures _ _ c.in_ok-size.was _ c.in_ok-past.was).0)

pub has_day-requires : goal.has_day-requires
has_day-requires c = omega (arith, (identifier_laid _ _ _ _ c.pen_digits.ensures _ _ c.in_ok-size.was _ c.in_ok-past.was).1)

pub returns-then-has_day : goal.returns-then-has_day
returns-then-has_day c = identifier_real _ _ _ _ c.pen_digits.ensures _ _ c.in_ok-size.was _ c.in_ok-past.was
    (sym c.has_day.ensures ∙ c.if-has_day.true)

pub returns : goal.returns
returns c = identifier_unreal _ _ _ _ c.pen_digits.ensures _ _ c.in_ok-size.was _ c.in_ok-past.was
    (sym c.has_day.ensures ∙ c.if-has_day.false)
