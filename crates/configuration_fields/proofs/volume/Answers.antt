-- `configuration_fields::volume` meets its contract: it is a byte of the content, in its set.
use Rattle.configuration_fields.specs.Asked.{volume}
use Rattle.configuration_fields.proofs.volume.Goals as goal

pub returns : goal.returns
returns c = unfold volume in c.among_in.ensures
