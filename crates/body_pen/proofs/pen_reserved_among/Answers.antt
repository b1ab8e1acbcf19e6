-- `body_pen::pen_reserved_among` meets its contract: a number below the bound and from lo to hi is counted.
use mathlib.Core.Path.{sym, ◌∙◌}
use Rattle.ground_refusal.proofs.Exits.{passed_on}
use Rattle.body_pen.proofs.Leaves.{count_stopped}
use Rattle.body_pen.proofs.Numbers.{bound_is, reserved_refused, reserved_passed}
use native.Mathlib.Omega.{arith}
use Rattle.body_pen.proofs.pen_reserved_among.Goals as goal

pub returns-in_err-size : goal.returns-in_err-size
returns-in_err-size c pool = passed_on c.from_residual.ensures ∙ count_stopped _ pool _ _ _ c.in_err-size.was

pub returns-in_err-v : goal.returns-in_err-v
returns-in_err-v c pool = let a = c.args in
    passed_on c.from_residual-in_err-v.ensures ∙
    reserved_refused a.k a.w a.lo a.hi pool a.tape.now _ _ (bound_is a.k a.w (omega arith) _ c.power-bound.ensures) _ _
    c.in_ok-size.was _ (sym c.in_err-v.was ∙ c.number_among.ensures)

pub returns : goal.returns
returns c pool = let a = c.args in
    reserved_passed a.k a.w a.lo a.hi pool a.tape.now _ _ (bound_is a.k a.w (omega arith) _ c.power-bound.ensures) _ _
    c.in_ok-size.was _ _ (sym c.in_ok-v.was ∙ c.number_among.ensures) _ c.grown.ensures
