-- `entry` meets its contract: the tables have the entries that antt computes.
use mathlib.Core.Path.{refl}
use mathlib.Core.Bool.{xor}
use Rattle.crc_register.specs.Register.{odd, bits_of, digit, value, plus, fed, step, run, crc, table_entry}
use Rattle.crc_register.proofs.Tables.{looked_up}
use Rattle.crc_table_second_far.proofs.entry.Goals as goal

pub returns : goal.returns
unfolding odd bits_of digit value plus fed step run crc table_entry xor
returns g c = looked_up 8 32 0x04C11DB7 8 4 _ c.args.x _ _ refl c.requires
