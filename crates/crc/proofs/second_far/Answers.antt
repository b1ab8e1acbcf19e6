-- `second_far` meets its contract: its entries are the lookups of the four chunks of x, in the tables from 8 on.
use Rattle.crc_register.proofs.Lookups.{lookups, crc_lookups}
use Rattle.crc.proofs.second_far.Goals as goal

pub returns : goal.returns
unfolding lookups
returns c = cc (crc_lookups 8 32 0x04C11DB7 8 3 c.args.x)
