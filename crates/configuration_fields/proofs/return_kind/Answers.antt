-- `configuration_fields::return_kind` meets its contract: it is a byte of the content, in its set.
use Rattle.configuration_fields.specs.Asked.{return_kind}
use Rattle.configuration_fields.proofs.return_kind.Goals as goal

pub returns : goal.returns
returns c = unfold return_kind in c.among_in.ensures
