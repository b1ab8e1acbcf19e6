-- `packet_memory::keep` meets its contract: the unfinished bytes, the mark and the packet make up the state.
use Rattle.packet_memory.proofs.Keeping.{state_stored}
use Rattle.packet_memory.proofs.keep.Goals as goal

pub returns : goal.returns
returns c = state_stored _ _ _ _ _ _ _ c.requires c.copy_at.ensures c.put_mark.ensures c.copy_at-2.ensures
