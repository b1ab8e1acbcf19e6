-- `far16` meets its contract: its entries are the lookups of the four chunks of x, in the tables from 4 on.
use Rattle.crc_register.proofs.Lookups.{lookups, crc_lookups}
use Rattle.crc.proofs.far16.Goals as goal

pub returns : goal.returns
unfolding lookups
returns c = cc (crc_lookups 4 16 0x1021 4 3 c.args.x)
