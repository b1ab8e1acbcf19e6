-- `two_lanes` meets its contract: each turn takes eight bytes out of one lane and lets them wait in the other.
use native.Mathlib.Omega.{arith}
use borrow.Author.Rules.{rules}
use Rattle.crc.specs.Lanes.{apart}
use Rattle.crc.proofs.Braid.{apart_start, far_turn, read_start}
use Rattle.crc.proofs.two_lanes.Goals as goal

pub loop-i-init : goal.loop-i-init
loop-i-init c = (search rules, apart_start, read_start (search rules))

pub loop-i-preserved : goal.loop-i-preserved
loop-i-preserved c = let here = c.loop-i.invariant.1 in
    let turned = far_turn here _ _ _ _ c.word-in-loop-i.ensures c.word.ensures c.first_far.ensures c.second_far.ensures in
    (search rules, turned, apart turned.lanes (omega arith))

pub returns : goal.returns
returns c = (search rules, c.loop-i.invariant.2)
