-- `crc16_after_four` meets its contract: of one byte or more the low nibble of the first goes in first, and then the other bytes.
use borrow.Author.Rules.{rules}
use Rattle.crc.specs.Crc.{crc16_bits, crc16_after_four}
use Rattle.crc.proofs.Walk.{after_none, after_four}
use Rattle.crc.proofs.crc16_after_four.Goals as goal

pub returns-then-s-eq0 : goal.returns-then-s-eq0
unfolding crc16_after_four crc16_bits
returns-then-s-eq0 c = after_none _ _ _ _ (search rules) (search rules)

pub returns : goal.returns
unfolding crc16_after_four crc16_bits
returns c = after_four _ _ _ _ _ _ (search rules) (cc) c.by_fours.ensures
