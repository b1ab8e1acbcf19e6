-- `nibble16` meets its contract: its entry is the lookup of the one chunk, the high nibble plus x.
use Rattle.crc_register.proofs.Lookups.{lookups, crc_chunks_block}
use Rattle.crc.proofs.nibble16.Goals as goal

pub returns : goal.returns
unfolding lookups
returns c = cc (crc_chunks_block 4 12 0x1021 0 c.args.reg c.args.x)
