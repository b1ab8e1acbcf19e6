-- `pair` meets its contract: a byte above eight bits stands before them.
use borrow.Author.Rules.{rules}
use Rattle.crc.proofs.Walk.{bits_pair}
use Rattle.crc.proofs.pair.Goals as goal

pub returns : goal.returns
returns c = bits_pair _ _ (search rules)
