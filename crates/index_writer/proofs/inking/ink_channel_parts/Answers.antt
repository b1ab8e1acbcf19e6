-- `index_writer::inking::ink_channel_parts` meets its contract: one after the other.
use Rattle.body_ink.proofs.Pairs.{first, second, pair_inked}
use Rattle.index_writer.proofs.inking.ink_channel_parts.Goals as goal

pub ink_descriptors-past-requires : goal.ink_descriptors-past-requires
ink_descriptors-past-requires c = first _ _ c.requires

pub ink_streams-requires : goal.ink_streams-requires
ink_streams-requires c = second c.ink_descriptors-past.ensures c.requires

pub returns : goal.returns
returns c = pair_inked c.ink_descriptors-past.ensures c.ink_streams.ensures
