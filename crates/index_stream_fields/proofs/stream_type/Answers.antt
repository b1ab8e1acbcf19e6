-- `index_stream_fields::stream_type` meets its contract: it is the first byte.
use Rattle.index_stream_fields.specs.Asked.{stream_type}
use Rattle.index_stream_fields.proofs.stream_type.Goals as goal

pub returns : goal.returns
returns c = unfold stream_type in c.first_byte.ensures
