-- `configuration_fields::mapping` meets its contract: it is a byte of the content, in its set.
use Rattle.configuration_fields.specs.Asked.{mapping}
use Rattle.configuration_fields.proofs.mapping.Goals as goal

pub returns : goal.returns
returns c = unfold mapping in c.among_in.ensures
