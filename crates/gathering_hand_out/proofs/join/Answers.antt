-- `gathering_hand_out::join` meets its contract: number k's payload lies in the store, and has room in the output.
use Rattle.std.proofs.Common.{arith, length-take, length-drop}
use Rattle.gathering_hand_out.proofs.Joining.{join_start, join_room, join_step, join_end}
use Rattle.gathering_hand_out.proofs.join.Goals as goal

pub loop-k-init : goal.loop-k-init
loop-k-init g c = join_start _ _ _ _

pub overflow_add-end : goal.overflow_add-end
overflow_add-end g c = let l = c.requires.lie c.loop-k.k (omega arith) in let p = c.place_of-at.ensures in omega arith

pub slice_bounds-copy_long-end : goal.slice_bounds-copy_long-end
slice_bounds-copy_long-end g c = let l = c.requires.lie c.loop-k.k (omega arith) in let p = c.place_of-at.ensures in omega arith

pub copy_long-requires : goal.copy_long-requires
copy_long-requires g c =
    let r = join_room _ _ _ _ _ _ _ c.loop-k.invariant (omega arith) c.requires.fit in
    simp (length-take, length-drop) (omega arith)

pub overflow_add-o : goal.overflow_add-o
overflow_add-o g c = let r = join_room _ _ _ _ _ _ _ c.loop-k.invariant (omega arith) c.requires.fit in omega arith

pub loop-k-preserved : goal.loop-k-preserved
loop-k-preserved g c =
    let l = c.requires.lie c.loop-k.k (omega arith) in
    let p = c.place_of-at.ensures in
    join_step _ _ _ _ _ _ _ c.loop-k.invariant (omega arith) c.requires.fit _ c.less_one-n.ensures.0 _ p (omega arith) _ c.copy_long.ensures

pub returns : goal.returns
returns g c = join_end _ _ _ _ _ _ _ c.loop-k.invariant (omega arith)
