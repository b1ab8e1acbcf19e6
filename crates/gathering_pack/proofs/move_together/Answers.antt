-- `gathering_pack::move_together` meets its contract: a payload is moved within the store, towards its front.
use Rattle.std.proofs.Common.{arith}
use Rattle.gathering_pack.proofs.Packing.{together_start, together_fits, together_step, together_end}
use Rattle.gathering_pack.proofs.move_together.Goals as goal

pub loop-k-init : goal.loop-k-init
loop-k-init c = together_start _ _

pub move_front-requires : goal.move_front-requires
move_front-requires c = together_fits _ _ c.requires _ _ _ c.loop-k.invariant (omega arith) _ c.less_one-n.ensures.0 _ c.place_of-at.ensures

pub overflow_add-o : goal.overflow_add-o
overflow_add-o c =
    let f = together_fits _ _ c.requires _ _ _ c.loop-k.invariant (omega arith) _ c.less_one-n.ensures.0 _ c.place_of-at.ensures in
    omega arith

pub loop-k-preserved : goal.loop-k-preserved
loop-k-preserved c =
    together_step _ _ c.requires _ _ _ c.loop-k.invariant (omega arith) _ c.less_one-n.ensures.0 _ c.place_of-at.ensures _ c.move_front.ensures

pub returns : goal.returns
returns c = let e = together_end _ _ c.requires _ _ _ c.loop-k.invariant (omega arith) in record { counted = e.0; joined = e.1 }
