-- `body_glance::good_time` meets its contract: its tests are what is asked of the five bytes of a time.
use Prim.Native.Nat.{◌+◌, ◌*◌}
use native.Mathlib.Omega.{arith}
use Rattle.body_glance.proofs.Leaves.{timely, time_good}
use Rattle.body_glance.proofs.good_time.Goals as goal

pub returns : goal.returns
returns c e = time_good _ _ (λ i. (c.type_inv.s i).fits)
    (timely _ _ (λ i. (c.type_inv.s i).fits) (c.wide.result * 256 + c.wide-2.result)
    (omega (arith, c.wide.ensures.0, c.wide-2.ensures.0)) e)
