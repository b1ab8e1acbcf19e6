-- `certificate_fields::authorization` meets its contract: the list begins the body.
use Rattle.certificate_fields.specs.Asked.{authorization_part}
use Rattle.certificate_fields.proofs.authorization.Goals as goal

pub returns : goal.returns
returns c = unfold authorization_part in c.listed_part.ensures
