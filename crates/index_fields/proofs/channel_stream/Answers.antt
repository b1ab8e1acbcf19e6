-- `index_fields::channel_stream` meets its contract: it is that number of the channel.
use Rattle.index_fields.specs.Asked.{channel_stream}
use Rattle.index_fields.proofs.channel_stream.Goals as goal

pub returns : goal.returns
returns c = unfold channel_stream in c.channel_number.ensures
