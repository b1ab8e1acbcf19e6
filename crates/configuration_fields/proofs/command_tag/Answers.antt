-- `configuration_fields::command_tag` meets its contract: it is asked for where the body has a byte for it, and is not refused for its value.
use mathlib.Core.Path.{◌∙◌}
use Rattle.configuration_fields.proofs.Answers.{tag_is, tag_none}
use Rattle.configuration_fields.proofs.command_tag.Goals as goal

pub returns-then-p-l : goal.returns-then-p-l
returns-then-p-l c = c.read_number.ensures ∙ tag_is _ _ (λ i. (c.type_inv.s i).fits) c.if-p-l.true

pub returns : goal.returns
returns c = tag_none _ _ c.if-p-l.false
