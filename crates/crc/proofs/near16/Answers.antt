-- `near16` meets its contract: its entries are the lookups of the four chunks of x.
use Rattle.crc_register.proofs.Lookups.{lookups, crc_chunks}
use Rattle.crc.proofs.near16.Goals as goal

pub returns : goal.returns
unfolding lookups
returns c = cc (crc_chunks 4 16 0x1021 3 c.args.x)
