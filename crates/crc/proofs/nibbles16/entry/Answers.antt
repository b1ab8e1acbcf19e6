-- `nibbles16::entry` meets its contract: the tables have the entries that antt computes.
use mathlib.Core.Path.{refl}
use mathlib.Core.Bool.{xor}
use Rattle.crc_register.specs.Register.{odd, bits_of, digit, value, plus, fed, step, run, crc, table_entry}
use Rattle.crc_register.proofs.Tables.{looked_up_first}
use Rattle.crc.proofs.nibbles16.entry.Goals as goal

pub returns : goal.returns
unfolding odd bits_of digit value plus fed step run crc table_entry xor
returns g c = looked_up_first 4 16 0x1021 8 _ c.args.x _ _ refl c.requires
