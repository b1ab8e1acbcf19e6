-- `program_value_lines::put_line` meets its contract: the name, a colon, the answer and what document 01 says, one after the other.
use mathlib.Core.List.{◌++◌}
use Rattle.program_printing.specs.Characters.{ascii}
use Rattle.ground_placing.proofs.Putting.{room_first, put_room, put_then}
use Rattle.program_value_lines.specs.Report.{value_text, said_text, line_of}
use Rattle.program_value_lines.proofs.put_line.Goals as goal

pub put_bytes-named-requires : goal.put_bytes-named-requires
unfolding line_of
put_bytes-named-requires c = let rest = value_text c.args.answer ++ said_text c.args.said.now in
    room_first c.args.at c.args.name.now (ascii ": " ++ rest) c.requires

pub put_bytes-colon-requires : goal.put_bytes-colon-requires
unfolding line_of
put_bytes-colon-requires c = let rest = value_text c.args.answer ++ said_text c.args.said.now in
    room_first c.put_bytes-named.result (ascii ": ") rest (put_room (ascii ": " ++ rest) c.put_bytes-named.ensures c.requires)

pub put_answer-answered-requires : goal.put_answer-answered-requires
unfolding line_of
put_answer-answered-requires c = let answer = value_text c.args.answer in
    let said = said_text c.args.said.now in
    room_first c.put_bytes-colon.result answer said
    (put_room (answer ++ said) c.put_bytes-colon.ensures
    (put_room (ascii ": " ++ (answer ++ said)) c.put_bytes-named.ensures c.requires))

pub put_said-requires : goal.put_said-requires
unfolding line_of
put_said-requires c = let said = said_text c.args.said.now in
    let rest = value_text c.args.answer ++ said in
    put_room said c.put_answer-answered.ensures
    (put_room rest c.put_bytes-colon.ensures (put_room (ascii ": " ++ rest) c.put_bytes-named.ensures c.requires))

pub returns : goal.returns
unfolding line_of
returns c = put_then c.put_bytes-named.ensures
    (put_then c.put_bytes-colon.ensures (put_then c.put_answer-answered.ensures c.put_said.ensures))
