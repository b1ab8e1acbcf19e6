-- `crc16` meets its contract: the part that it lends is all of the string.
use borrow.Author.Rules.{rules}
use Rattle.crc.specs.Crc.{crc16_of}
use Rattle.crc.proofs.Walk.{walk_start, walk_rest}
use Rattle.crc.proofs.crc16.Goals as goal

pub returns : goal.returns
returns c = unfold crc16_of in walk_rest (walk_start (search rules)) c.by_fours.ensures
