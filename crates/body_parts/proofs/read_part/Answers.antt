-- `body_parts::read_part` meets its contract: no length is less than 0.
use mathlib.Core.Path.{◌∙◌}
use Rattle.body_formats.proofs.Readers.{least_none}
use Rattle.body_parts.proofs.read_part.Goals as goal

pub returns : goal.returns
returns c = c.read_part_least.ensures ∙ least_none _ _ _ _
