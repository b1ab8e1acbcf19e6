-- `index_fields::channel_network` meets its contract: it is that number of the channel.
use Rattle.index_fields.specs.Asked.{channel_network}
use Rattle.index_fields.proofs.channel_network.Goals as goal

pub returns : goal.returns
returns c = unfold channel_network in c.channel_number.ensures
