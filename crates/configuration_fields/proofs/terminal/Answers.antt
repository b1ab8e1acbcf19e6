-- `configuration_fields::terminal` meets its contract: it stands at its place in the list.
use mathlib.Core.Path.{ap, ◌∙◌}
use Rattle.configuration_fields.specs.Asked.{terminal, resource_of}
use Rattle.configuration_fields.proofs.terminal.Goals as goal

pub returns : goal.returns
returns c = unfold terminal in c.resource.ensures ∙ ap (resource_of _) c.terminal_at.ensures
