-- `content_fields::identifier` meets its contract: it begins the body.
use Rattle.content_fields.specs.Asked.{identifier_part}
use Rattle.content_fields.proofs.identifier.Goals as goal

pub returns : goal.returns
returns c = unfold identifier_part in c.read_identifier.ensures
