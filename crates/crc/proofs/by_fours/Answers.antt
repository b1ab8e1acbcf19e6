-- `by_fours` meets its contract: the register is always that of the bytes passed, and the last bytes are passed by their nibbles.
use native.Mathlib.Omega.{arith}
use borrow.Author.Rules.{rules}
use Rattle.crc.proofs.Walk.{walk_start, walk_four, walk_rest}
use Rattle.crc.proofs.by_fours.Goals as goal

pub loop-i-init : goal.loop-i-init
loop-i-init c = (search rules, walk_start (search rules))

pub loop-i-preserved : goal.loop-i-preserved
loop-i-preserved c = let walked = c.loop-i.invariant.1 in
    (omega arith, walk_four _ _ _ _ walked (omega arith) c.pair-in-loop-i.ensures c.pair.ensures c.far16.ensures c.near16.ensures)

pub returns : goal.returns
returns c = walk_rest c.loop-i.invariant.1 c.by_nibbles.ensures
