-- `body_pen::pen_part` meets its contract: the bytes of its length are counted, and those of the pool.
use mathlib.Core.Path.{◌∙◌}
use Rattle.ground_refusal.proofs.Exits.{passed_on}
use Rattle.body_pen.proofs.Leaves.{stopped}
use Rattle.body_pen.proofs.Strings.{part_refused, part_passed}
use native.Mathlib.Omega.{arith}
use Rattle.body_pen.proofs.pen_part.Goals as goal

pub returns-in_err-size : goal.returns-in_err-size
returns-in_err-size c = passed_on c.from_residual.ensures ∙ stopped _ _ _ _ _ c.in_err-size.was

pub returns-in_err-a : goal.returns-in_err-a
returns-in_err-a c = passed_on c.from_residual-in_err-a.ensures ∙
    part_refused _ _ _ _ _ _ c.in_ok-size.was _ (c.span_at.ensures.0 _ c.in_err-a.was)

pub overflow_add-w : goal.overflow_add-w
overflow_add-w c = omega (arith, (c.span_at.ensures.1 _ _ c.in_ok-a.was).1, c.well_formed.0.1)

pub overflow_add-result : goal.overflow_add-result
overflow_add-result c = omega (arith, (c.span_at.ensures.1 _ _ c.in_ok-a.was).0, c.well_formed.1.0.1)

pub returns : goal.returns
returns c = let s = c.span_at.ensures.1 _ _ c.in_ok-a.was in
    part_passed _ _ _ _ _ _ c.in_ok-size.was _ _ s.1 s.2 _ c.power.ensures _ c.grown.ensures
