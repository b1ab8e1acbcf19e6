-- `rooms_marks::mark` meets its contract: the marks of all rooms are those set so far with the rest set on top.
use Rattle.std.proofs.Common.{◌<◌, length, refl, sym, ap, ◌∙◌, arith}
use lib.ListN.{length-set}
use Rattle.rooms_marks.proofs.Marking.{mark_end, mark_set, mark_past, mark_none}
use Rattle.rooms_marks.proofs.mark.Goals as goal
use Rattle.rooms_marks.proofs.mark.Goals.{then-r-gt0+then-r-marks, else-r-gt0, else-r-gt0-via-then-r-gt0+else-r-marks, else-r-gt0-via-else-r-gt0}

pub loop-room-preserved : goal.loop-room-preserved
loop-room-preserved c =
    let rooms = c.args.rooms.now in
    let k = c.loop-room.room-index in
    let marks = c.loop-room.marks in
    let i = c.loop-room.invariant in
    let inside : k < length rooms = omega arith in (
      omega arith,
      elim c.if-r-gt0.branch [
        | then-r-gt0+then-r-marks w ↦ ap length w.marks-is ∙ simp length-set i.1
        | else-r-gt0 w ↦ ap length w.marks-is ∙ i.1
      ],
      elim c.if-r-gt0.branch [
        | then-r-gt0+then-r-marks w ↦ mark_set rooms k _ marks inside i.2 _ _ refl (omega arith) w.raised.ensures c.if-r-gt0.marks w.marks-is
        | else-r-gt0 w ↦ elim w.else-r-gt0.branch [
          | else-r-gt0-via-then-r-gt0+else-r-marks v ↦ mark_past rooms k _ marks inside i.2 _ refl (omega arith) (omega arith) c.if-r-gt0.marks w.marks-is
          | else-r-gt0-via-else-r-gt0 v ↦ mark_none rooms k _ marks inside i.2 _ refl (omega arith) c.if-r-gt0.marks w.marks-is
        ]
      ],
    )

pub returns : goal.returns
returns c = let i = c.loop-room.invariant in sym (i.2 ∙ mark_end c.args.rooms.now c.loop-room.room-index _ (omega arith))
