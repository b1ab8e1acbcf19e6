-- `index_fields::message_count` meets its contract: the count begins the body.
use Rattle.index_fields.specs.Asked.{message_count}
use Rattle.index_fields.proofs.message_count.Goals as goal

pub returns : goal.returns
returns c = unfold message_count in c.read_number.ensures
