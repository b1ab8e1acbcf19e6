-- `configuration_fields::code_resource` meets its contract: it stands where the address ends.
use mathlib.Core.Path.{ap, ◌∙◌}
use Rattle.configuration_fields.specs.Asked.{code_resource, resource_of}
use Rattle.configuration_fields.proofs.code_resource.Goals as goal

pub returns : goal.returns
returns c = unfold code_resource in c.resource.ensures ∙ ap (resource_of _) c.code_at.ensures
