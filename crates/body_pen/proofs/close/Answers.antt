-- `body_pen::close` meets its contract: the length is what lies between the two pens, and is below the limit or too large.
use mathlib.Core.Path.{◌∙◌}
use Rattle.ground_refusal.proofs.Exits.{passed_on}
use Rattle.body_pen.proofs.Lengths.{close_none, close_refused, close_over, close_within}
use native.Mathlib.Omega.{arith}
use Rattle.body_pen.proofs.close.Goals as goal

pub returns-in_err-size : goal.returns-in_err-size
returns-in_err-size c = passed_on c.from_residual.ensures ∙ close_none _ _ _ _ _ c.in_err-size.was

pub returns-in_err-end : goal.returns-in_err-end
returns-in_err-end c = passed_on c.from_residual-in_err-end.ensures ∙ close_refused _ _ _ _ _ _ c.in_ok-size.was _ c.in_err-end.was

pub returns-then-limit-n : goal.returns-then-limit-n
returns-then-limit-n c = close_over _ _ _ _ _ _ c.in_ok-size.was _ _ c.in_ok-end.was c.less-n.result
    (omega (arith, c.less-n.ensures, c.less.ensures)) c.if-limit-n.true

pub returns : goal.returns
returns c = close_within _ _ _ _ _ _ c.in_ok-size.was _ _ c.in_ok-end.was c.less-n.result
    (omega (arith, c.less-n.ensures, c.less.ensures)) (omega arith) _ c.grown.ensures
