-- `near` meets its contract: its entries are the lookups of the four chunks of x.
use Rattle.crc_register.proofs.Lookups.{lookups, crc_chunks}
use Rattle.crc.proofs.near.Goals as goal

pub returns : goal.returns
unfolding lookups
returns c = cc (crc_chunks 8 32 0x04C11DB7 3 c.args.x)
