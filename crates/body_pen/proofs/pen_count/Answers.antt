-- `body_pen::pen_count` meets its contract: the entry is the count, and its bytes are counted.
use mathlib.Core.Path.{sym, ◌∙◌}
use Rattle.ground_refusal.proofs.Exits.{passed_on}
use Rattle.body_pen.proofs.Leaves.{count_stopped}
use Rattle.body_pen.proofs.Numbers.{count_no, count_is}
use Rattle.body_pen.proofs.pen_count.Goals as goal

pub returns-in_err-size : goal.returns-in_err-size
returns-in_err-size c pool = passed_on c.from_residual.ensures ∙ count_stopped _ pool _ _ _ c.in_err-size.was

pub returns-in_err-v : goal.returns-in_err-v
returns-in_err-v c pool = passed_on c.from_residual-in_err-v.ensures ∙
    count_no _ pool _ _ _ _ c.in_ok-size.was _ (sym c.in_err-v.was ∙ c.entry_at.ensures)

pub returns : goal.returns
returns c pool = count_is _ pool _ _ _ _ c.in_ok-size.was _ _ (sym c.in_ok-v.was ∙ c.entry_at.ensures) _ c.power.ensures _
    c.grown.ensures
