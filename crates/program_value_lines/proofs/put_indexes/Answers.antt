-- `program_value_lines::put_indexes` meets its contract: a line for each body, one after the other.
use mathlib.Core.List.{◌++◌}
use Rattle.ground_placing.proofs.Putting.{room_first, put_room, put_then}
use Rattle.program_value_lines.specs.Report.{three_line, two_line, four_line, index_lines}
use Rattle.program_value_lines.proofs.put_indexes.Goals as goal

pub put_line-good-requires : goal.put_line-good-requires
unfolding index_lines three_line
put_line-good-requires c = rw c.index_answer-three.ensures (room_first c.args.at three_line (two_line ++ four_line) c.requires)

pub put_line-short-requires : goal.put_line-short-requires
unfolding index_lines three_line two_line
put_line-short-requires c = rw c.index_answer-two.ensures
    (room_first c.put_line-good.result two_line four_line
    (put_room (two_line ++ four_line) (rw c.index_answer-three.ensures at c.put_line-good.ensures) c.requires))

pub put_line-requires : goal.put_line-requires
unfolding index_lines three_line two_line four_line
put_line-requires c = rw c.index_answer-four.ensures
    (put_room four_line (rw c.index_answer-two.ensures at c.put_line-short.ensures)
    (put_room (two_line ++ four_line) (rw c.index_answer-three.ensures at c.put_line-good.ensures) c.requires))

pub returns : goal.returns
unfolding index_lines three_line two_line four_line
returns c = put_then (rw c.index_answer-three.ensures at c.put_line-good.ensures)
    (put_then (rw c.index_answer-two.ensures at c.put_line-short.ensures) (rw c.index_answer-four.ensures at c.put_line.ensures))
