-- `joined` meets its contract: a byte above k bits stands before them.
use borrow.Author.Rules.{rules}
use Rattle.crc.proofs.Walk.{bits_joined}
use Rattle.crc.proofs.joined.Goals as goal

pub returns : goal.returns
returns c = bits_joined _ _ _ _ (search rules) (search rules) (search rules)
