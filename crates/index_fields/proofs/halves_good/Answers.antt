-- `index_fields::halves_good` meets its contract: the second half is tested where the first is good.
use mathlib.Core.Path.{sym, ◌∙◌}
use Rattle.index_fields.proofs.Answers.{and_second, and_none}
use Rattle.index_fields.proofs.halves_good.Goals as goal

pub returns-then-within : goal.returns-then-within
returns-then-within c = c.within-then-within.ensures ∙ and_second _ _ (sym c.within.ensures ∙ c.if-within.true)

pub returns : goal.returns
returns c = and_none _ _ (sym c.within.ensures ∙ c.if-within.false)
