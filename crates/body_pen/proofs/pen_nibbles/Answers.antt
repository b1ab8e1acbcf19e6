-- `body_pen::pen_nibbles` meets its contract: both numbers are taken by the same tests, and make one byte.
use mathlib.Core.Path.{sym, ◌∙◌}
use Rattle.ground_refusal.proofs.Exits.{passed_on}
use Rattle.body_pen.proofs.Leaves.{stopped}
use Rattle.body_pen.proofs.Numbers.{high_refused, low_refused, nibbles_passed}
use Rattle.body_pen.proofs.pen_nibbles.Goals as goal

pub returns-in_err-size : goal.returns-in_err-size
returns-in_err-size c pool = passed_on c.from_residual.ensures ∙ stopped _ pool _ _ _ c.in_err-size.was

pub returns-in_err-high : goal.returns-in_err-high
returns-in_err-high c pool = let a = c.args in
    passed_on c.from_residual-in_err-high.ensures ∙
    high_refused a.lo a.hi pool a.tape.now _ _ _ c.in_ok-size.was _ (sym c.in_err-high.was ∙ c.number_among.ensures)

pub returns-in_err-low : goal.returns-in_err-low
returns-in_err-low c pool = let a = c.args in
    passed_on c.from_residual-in_err-low.ensures ∙
    low_refused a.lo a.hi pool a.tape.now _ _ _ c.in_ok-size.was _ _ (sym c.in_ok-high.was ∙ c.number_among.ensures) _
    (sym c.in_err-low.was ∙ c.number_among-2.ensures)

pub returns : goal.returns
returns c pool = let a = c.args in
    nibbles_passed a.lo a.hi pool a.tape.now _ _ _ c.in_ok-size.was _ _ (sym c.in_ok-high.was ∙ c.number_among.ensures) _ _
    (sym c.in_ok-low.was ∙ c.number_among-2.ensures) _ c.grown.ensures
