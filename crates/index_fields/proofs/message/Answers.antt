-- `index_fields::message` meets its contract: the list begins the body.
use Rattle.index_fields.specs.Asked.{message_part}
use Rattle.index_fields.proofs.message.Goals as goal

pub returns : goal.returns
returns c = unfold message_part in c.listed_part.ensures
