-- `index_fields::resource_count` meets its contract: it is a number of one byte.
use Rattle.index_fields.specs.Asked.{resource_count}
use Rattle.index_fields.proofs.resource_count.Goals as goal

pub returns : goal.returns
returns c = unfold resource_count in c.number_in.ensures
