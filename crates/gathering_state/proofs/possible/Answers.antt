-- `gathering_state::possible` meets its contract: no table has the kind 0, and only the fresh state has it.
use mathlib.Core.Path.{sym, ◌∙◌}
use Rattle.gathering_state.proofs.State.{possible_none, possible_some}
use Rattle.gathering_state.proofs.possible.Goals as goal

pub returns-then-g-eq0 : goal.returns-then-g-eq0
returns-then-g-eq0 c = c.is_fresh.ensures ∙ sym (possible_none _ c.if-g-eq0.true)

pub returns-else-g-eq0 : goal.returns-else-g-eq0
returns-else-g-eq0 c = c.is_begun.ensures ∙ sym (possible_some _ c.if-g-eq0.false)
