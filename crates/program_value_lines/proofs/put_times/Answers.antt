-- `program_value_lines::put_times` meets its contract: a line for the day and for each time, one after the other.
use mathlib.Core.List.{◌++◌}
use Rattle.ground_placing.proofs.Putting.{room_first, put_room, put_then}
use Rattle.program_value_lines.specs.Report.{day_line, november_line, march_line, time_lines}
use Rattle.program_value_lines.proofs.put_times.Goals as goal

pub put_line-one-requires : goal.put_line-one-requires
unfolding time_lines day_line
put_line-one-requires c = rw c.day_answer-day.ensures (room_first c.args.at day_line (november_line ++ march_line) c.requires)

pub put_line-two-requires : goal.put_line-two-requires
unfolding time_lines day_line november_line
put_line-two-requires c = rw c.time_answer-november.ensures
    (room_first c.put_line-one.result november_line march_line
    (put_room (november_line ++ march_line) (rw c.day_answer-day.ensures at c.put_line-one.ensures) c.requires))

pub put_line-requires : goal.put_line-requires
unfolding time_lines day_line november_line march_line
put_line-requires c = rw c.time_answer-march.ensures
    (put_room march_line (rw c.time_answer-november.ensures at c.put_line-two.ensures)
    (put_room (november_line ++ march_line) (rw c.day_answer-day.ensures at c.put_line-one.ensures) c.requires))

pub returns : goal.returns
unfolding time_lines day_line november_line march_line
returns c = put_then (rw c.day_answer-day.ensures at c.put_line-one.ensures)
    (put_then (rw c.time_answer-november.ensures at c.put_line-two.ensures) (rw c.time_answer-march.ensures at c.put_line.ensures))
