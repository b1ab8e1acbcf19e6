-- `byte32` meets its contract: its entry is the lookup of the high byte plus b.
use Rattle.crc_register.proofs.Lookups.{lookups, crc_chunks_block}
use Rattle.crc.proofs.byte32.Goals as goal

pub returns : goal.returns
unfolding lookups
returns c = cc (crc_chunks_block 8 24 0x04C11DB7 0 c.args.reg c.args.b)
