-- `body_walk::walk_nibbles` meets its contract: one byte holds both, and each is judged.
use mathlib.Core.Path.{sym, ap₂, ◌∙◌}
use mathlib.Core.Bool.{◌&&◌}
use Rattle.body_walk.proofs.Pairs.{left, exits}
use Rattle.body_walk.proofs.Leaves.{nibbles_no, either_out, both_in}
use Rattle.body_walk.proofs.walk_nibbles.Goals as goal

pub returns-in_err-p : goal.returns-in_err-p
returns-in_err-p c = left c.from_residual.ensures c.in_err-p.was

pub returns-in_err-v : goal.returns-in_err-v
returns-in_err-v c = exits c.from_residual-in_err-v.ensures (nibbles_no _ _ _ _ _ _ _ _ _ c.in_ok-p.was _ (sym c.in_err-v.was ∙ c.read_number.ensures))

pub returns-then-not-within : goal.returns-then-not-within
returns-then-not-within c = either_out _ _ _ _ _ _ _ _ _ c.in_ok-p.was _ _ (sym c.in_ok-v.was ∙ c.read_number.ensures)
    (ap₂ ◌&&◌ (sym c.within.ensures) (sym c.within-2.ensures) ∙ c.if-not-within.true)

pub returns : goal.returns
returns c = both_in _ _ _ _ _ _ _ _ _ c.in_ok-p.was _ _ (sym c.in_ok-v.was ∙ c.read_number.ensures)
    (ap₂ ◌&&◌ (sym c.within.ensures) (sym c.within-2.ensures) ∙ c.if-not-within.false) _ _ c.less.ensures c.lay_two.ensures
