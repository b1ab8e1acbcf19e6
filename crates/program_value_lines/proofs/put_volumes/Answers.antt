-- `program_value_lines::put_volumes` meets its contract: a line for each volume, one after the other.
use Rattle.ground_placing.proofs.Putting.{room_first, put_room, put_then}
use Rattle.program_value_lines.specs.Report.{full_line, above_line, volume_lines}
use Rattle.program_value_lines.proofs.put_volumes.Goals as goal

pub put_line-good-requires : goal.put_line-good-requires
unfolding volume_lines full_line
put_line-good-requires c = rw c.volume_answer-full.ensures (room_first c.args.at full_line above_line c.requires)

pub put_line-requires : goal.put_line-requires
unfolding volume_lines full_line above_line
put_line-requires c = rw c.volume_answer-above.ensures
    (put_room above_line (rw c.volume_answer-full.ensures at c.put_line-good.ensures) c.requires)

pub returns : goal.returns
unfolding volume_lines full_line above_line
returns c = put_then (rw c.volume_answer-full.ensures at c.put_line-good.ensures)
    (rw c.volume_answer-above.ensures at c.put_line.ensures)
