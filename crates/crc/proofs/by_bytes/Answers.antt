-- `by_bytes` meets its contract: the register is always that of the bytes passed.
use borrow.Author.Rules.{rules}
use Rattle.crc.proofs.Walk.{walk_start, walk_byte, walk_end}
use Rattle.crc.proofs.by_bytes.Goals as goal

pub loop-b-init : goal.loop-b-init
loop-b-init c = walk_start (search rules)

pub loop-b-preserved : goal.loop-b-preserved
loop-b-preserved c = walk_byte _ (search rules) (search rules) c.byte32-r.ensures

pub returns : goal.returns
returns c = walk_end c.loop-b.invariant (search rules)
