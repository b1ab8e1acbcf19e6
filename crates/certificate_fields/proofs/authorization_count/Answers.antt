-- `certificate_fields::authorization_count` meets its contract: the count begins the body.
use Rattle.certificate_fields.specs.Asked.{authorization_count}
use Rattle.certificate_fields.proofs.authorization_count.Goals as goal

pub returns : goal.returns
returns c = unfold authorization_count in c.read_number.ensures
