-- `teaching_hand_out::join` meets its contract: after k turns the contents of the numbers below k stand at the start of the output.
use Prim.Native.Nat.{◌+◌}
use native.Mathlib.Omega.{arith}
use lib.ListN.{length}
use Rattle.teaching_questions.proofs.Walking.{sections_in}
use Rattle.teaching_hand_out.proofs.Joining.{length_turn, room_turn, joined_turn, joined_size, order_none, order_most, joined_none}
use Rattle.teaching_hand_out.proofs.join.Goals as goal

pub loop-k-init : goal.loop-k-init
loop-k-init c = (order_none _, joined_none _ _)

pub copy_at-requires : goal.copy_at-requires
copy_at-requires c =
    let here = c.loop-k in
    let room = c.requires in
    let most = order_most here.k (c.args.t.last + 1) (sections_in c.args.t c.args.rows.now) (omega arith) in
    omega (
      arith,
      joined_size _ _ _ here.invariant.1 (omega (arith, most, room)),
      room_turn _ _ _ c.contents_of-part.ensures.0 here.n (c.args.t.last + 1) (length c.args.out.now) here.invariant.0 (omega arith) room,
    )

pub overflow_add-n : goal.overflow_add-n
overflow_add-n c =
    let here = c.loop-k in
    omega (
      arith,
      room_turn _ _ _ c.contents_of-part.ensures.0 here.n (c.args.t.last + 1) (length c.args.out.now) here.invariant.0 (omega arith) c.requires,
    )

pub loop-k-preserved : goal.loop-k-preserved
loop-k-preserved c =
    let here = c.loop-k in
    let part = c.contents_of-part.ensures.0 in
    let room = c.requires in
    let most = order_most here.k (c.args.t.last + 1) (sections_in c.args.t c.args.rows.now) (omega arith) in (
      length_turn _ _ _ part here.n here.invariant.0,
      joined_turn _ _ _ part c.args.out.now _ _ here.n here.invariant.0 here.invariant.1 (omega (arith, most, room)) c.copy_at.ensures,
    )
