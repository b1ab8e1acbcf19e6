-- `gathering_state::total_of` meets its contract. The loop's invariant: the sum so far and the total of what is left make the whole.
use native.Mathlib.Omega.{arith}
use Rattle.gathering_state.proofs.Lists.{total_step, total_end}
use Rattle.gathering_state.proofs.total_of.Goals as goal

pub loop-n-init : goal.loop-n-init
loop-n-init c = (omega arith, omega arith, omega arith)

pub loop-n-preserved : goal.loop-n-preserved
loop-n-preserved c = let t = total_step c.args.s.now c.loop-n.n-index (omega arith) in (omega arith, omega arith, omega arith)

pub returns : goal.returns
returns c = let t = total_end c.args.s.now c.loop-n.n-index (omega arith) in omega arith
