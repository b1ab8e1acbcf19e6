-- `rooms_marks::held_rooms` meets its contract: those held so far, and those among the rest, are all that are held.
use native.Mathlib.Omega.{arith}
use Rattle.rooms_marks.specs.Rooms.{held_rooms}
use Rattle.rooms_marks.proofs.Counting.{held_step, held_skip, held_end}
use Rattle.rooms_marks.proofs.held_rooms.Goals as goal
use Rattle.rooms_marks.proofs.held_rooms.Goals.{then-rooms-k-ne0, else-rooms-k-ne0}

pub loop-k-preserved : goal.loop-k-preserved
loop-k-preserved c =
    let rooms = c.args.rooms.now in
    let k = c.loop-k.k in (
      elim c.if-rooms-k-ne0.branch [ then-rooms-k-ne0 w ↦ omega arith | else-rooms-k-ne0 w ↦ omega arith ],
      elim c.if-rooms-k-ne0.branch [
        | then-rooms-k-ne0 w ↦ let s = held_step rooms k (omega arith) (omega arith) in omega arith
        | else-rooms-k-ne0 w ↦ let s = held_skip rooms k (omega arith) (omega arith) in omega arith
      ],
    )

pub returns : goal.returns
returns c = let end = held_end c.args.rooms.now c.loop-k.k (omega arith) in omega arith
