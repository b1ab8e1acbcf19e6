-- `gathering_state::greatest_from` meets its contract. The loop's invariant: what was to be found is the greatest so far, or that of what is left.
use native.Mathlib.Omega.{arith}
use Rattle.gathering_state.proofs.Lists.{greatest_step, greatest_end}
use Rattle.gathering_state.proofs.greatest_from.Goals as goal

pub loop-i-init : goal.loop-i-init
loop-i-init c = omega arith

pub loop-i-preserved : goal.loop-i-preserved
loop-i-preserved c = let t = greatest_step c.args.s.now c.loop-i.i (omega arith) in omega arith

pub returns : goal.returns
returns c = let t = greatest_end c.args.s.now c.loop-i.i (omega arith) in omega arith
