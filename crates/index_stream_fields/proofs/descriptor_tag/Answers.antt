-- `index_stream_fields::descriptor_tag` meets its contract: it is the first byte.
use Rattle.index_stream_fields.specs.Asked.{descriptor_tag}
use Rattle.index_stream_fields.proofs.descriptor_tag.Goals as goal

pub returns : goal.returns
returns c = unfold descriptor_tag in c.first_byte.ensures
