-- `program_date_lines::put_line` meets its contract: the number, a space, the answer and LF, one after the other.
use mathlib.Core.List.{◌++◌}
use Rattle.program_printing.specs.Characters.{ascii, decimal_of}
use Rattle.program_date_lines.specs.Report.{time_answered, line_of}
use Rattle.ground_placing.proofs.Putting.{room_first, put_room, put_then}
use Rattle.program_date_lines.proofs.put_line.Goals as goal

pub put_decimal-counted-requires : goal.put_decimal-counted-requires
unfolding line_of
put_decimal-counted-requires c = room_first c.args.at (decimal_of c.args.number) (ascii " " ++ (time_answered c.args.text.now ++ ascii "\n")) c.requires

pub put_bytes-space-requires : goal.put_bytes-space-requires
unfolding line_of
put_bytes-space-requires c = let answer = time_answered c.args.text.now ++ ascii "\n" in
    room_first c.put_decimal-counted.result (ascii " ") answer (put_room (ascii " " ++ answer) c.put_decimal-counted.ensures c.requires)

pub put_answer-answered-requires : goal.put_answer-answered-requires
unfolding line_of
put_answer-answered-requires c = let answer = time_answered c.args.text.now in
    room_first c.put_bytes-space.result answer (ascii "\n")
    (put_room (answer ++ ascii "\n") c.put_bytes-space.ensures
    (put_room (ascii " " ++ (answer ++ ascii "\n")) c.put_decimal-counted.ensures c.requires))

pub put_bytes-requires : goal.put_bytes-requires
unfolding line_of
put_bytes-requires c = let answer = time_answered c.args.text.now in
    put_room (ascii "\n") c.put_answer-answered.ensures
    (put_room (answer ++ ascii "\n") c.put_bytes-space.ensures
    (put_room (ascii " " ++ (answer ++ ascii "\n")) c.put_decimal-counted.ensures c.requires))

pub returns : goal.returns
unfolding line_of
returns c = put_then c.put_decimal-counted.ensures
    (put_then c.put_bytes-space.ensures (put_then c.put_answer-answered.ensures c.put_bytes.ensures))
