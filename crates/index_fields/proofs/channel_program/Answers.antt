-- `index_fields::channel_program` meets its contract: it is that number of the channel.
use Rattle.index_fields.specs.Asked.{channel_program}
use Rattle.index_fields.proofs.channel_program.Goals as goal

pub returns : goal.returns
returns c = unfold channel_program in c.channel_number.ensures
