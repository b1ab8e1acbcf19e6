-- `body_pen::take_count` meets its contract: it takes an entry of the tape and counts no byte.
use mathlib.Core.Path.{sym, ◌∙◌}
use Rattle.ground_refusal.proofs.Exits.{passed_on}
use Rattle.body_pen.proofs.Leaves.{count_stopped}
use Rattle.body_pen.proofs.Lists.{untaken, taken}
use Rattle.body_pen.proofs.take_count.Goals as goal

pub returns-in_err-size : goal.returns-in_err-size
returns-in_err-size c pool = passed_on c.from_residual.ensures ∙ count_stopped _ pool _ _ _ c.in_err-size.was

pub returns-in_err-n : goal.returns-in_err-n
returns-in_err-n c pool = passed_on c.from_residual-in_err-n.ensures ∙ untaken pool _ _ _ _ c.in_ok-size.was _ (sym c.in_err-n.was ∙ c.entry_at.ensures)

pub returns : goal.returns
returns c pool = taken pool _ _ _ _ c.in_ok-size.was _ _ (sym c.in_ok-n.was ∙ c.entry_at.ensures) _ c.grown.ensures
