-- `rooms_count::rooms_free` meets its contract: what is not held of the rooms is free.
use Rattle.std.proofs.Common.{sym, ◌∙◌}
use Rattle.ground_refusal.proofs.Exits.{passed_on}
use Rattle.rooms_count.proofs.Counting.{free_refused, free_counted, free_most}
use Rattle.rooms_count.proofs.rooms_free.Goals as goal

pub returns-in_err-held : goal.returns-in_err-held
returns-in_err-held c = passed_on c.from_residual.ensures ∙ free_refused _ _ _ (sym c.rooms_held.ensures ∙ c.in_err-held.was)

pub overflow_sub-result : goal.overflow_sub-result
overflow_sub-result c = free_most _ _ _ (sym c.rooms_held.ensures ∙ c.in_ok-held.was) _ c.rooms_in.ensures.0

pub returns : goal.returns
returns c = free_counted _ _ _ (sym c.rooms_held.ensures ∙ c.in_ok-held.was) _ c.rooms_in.ensures.0
