-- `gathering_state::smallest_missing` meets its contract. The loop's invariant: the numbers before k are held, so the smallest missing one is k or stands after it.
use mathlib.Core.Path.{refl}
use native.Mathlib.Omega.{arith}
use Rattle.gathering_state.proofs.Lists.{missing_end, missing_step}
use Rattle.gathering_state.proofs.smallest_missing.Goals as goal

pub loop-k-init : goal.loop-k-init
loop-k-init c = (refl, omega arith)

pub loop-k-preserved : goal.loop-k-preserved
loop-k-preserved c = let v = c.loop-k.invariant in (v.0, missing_step _ _ v.1 (omega arith) (omega arith))

pub returns-after-loop-k : goal.returns-after-loop-k
returns-after-loop-k c = let v = c.loop-k.invariant in omega (arith, v.0, missing_end _ _ v.1 (omega arith))
