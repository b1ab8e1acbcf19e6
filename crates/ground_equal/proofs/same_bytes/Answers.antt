-- `ground_equal::same_bytes` meets its contract: it compares as std does.
use mathlib.Core.Path.{◌∙◌}
use Rattle.ground_equal.proofs.Same.{same_pointwise}
use Rattle.ground_equal.proofs.same_bytes.Goals as goal

pub returns : goal.returns
returns c = c.eq.ensures ∙ same_pointwise _ _
