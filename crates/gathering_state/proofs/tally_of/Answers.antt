-- `gathering_state::tally_of` meets its contract. The loop's invariant: what is found so far, with what is left to find, is what there is to find.
use native.Mathlib.Omega.{arith}
use Rattle.gathering_state.proofs.Lists.{greatest_step, greatest_end, total_step, total_end, held_step, held_end}
use Rattle.gathering_state.proofs.tally_of.Goals as goal

pub loop-n-init : goal.loop-n-init
loop-n-init c = (omega arith, omega arith, omega arith, omega arith, omega arith, omega arith)

pub loop-n-preserved : goal.loop-n-preserved
loop-n-preserved c = let s = c.args.s.now in
    let most = greatest_step s c.loop-n.n-index (omega arith) in
    let held = held_step s c.loop-n.n-index (omega arith) in
    let bytes = total_step s c.loop-n.n-index (omega arith) in
    (omega arith, omega arith, omega arith, omega arith, omega arith, omega arith)

pub returns : goal.returns
returns c = let s = c.args.s.now in
    let most = greatest_end s c.loop-n.n-index (omega arith) in
    let held = held_end s c.loop-n.n-index (omega arith) in
    let bytes = total_end s c.loop-n.n-index (omega arith) in
    (omega arith, omega arith, omega arith)
