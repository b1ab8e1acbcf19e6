-- `gathering_state::is_begun` meets its contract: where its other numbers are a table's, the tests by what the pass over the lengths tells decide.
use mathlib.Core.Path.{sym, ◌∙◌}
use Rattle.gathering_state.proofs.State.{begun_told, begun_not}
use Rattle.gathering_state.proofs.is_begun.Goals as goal

pub returns-then-is_of_table : goal.returns-then-is_of_table
returns-then-is_of_table c = c.is_begun_by.ensures ∙ begun_told _ _ _ _ _ c.survey_of.ensures (sym c.is_of_table.ensures ∙ c.if-is_of_table.true)

pub returns-else-is_of_table : goal.returns-else-is_of_table
returns-else-is_of_table c = c.if-is_of_table.false ∙ begun_not _ (sym c.is_of_table.ensures ∙ c.if-is_of_table.false)
