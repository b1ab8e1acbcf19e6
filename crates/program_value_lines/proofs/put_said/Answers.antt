-- `program_value_lines::put_said` meets its contract: its three parts, one after the other.
use mathlib.Core.List.{◌++◌}
use Rattle.program_printing.specs.Characters.{ascii}
use Rattle.ground_placing.proofs.Putting.{room_first, put_room, put_then}
use Rattle.program_value_lines.specs.Report.{said_text}
use Rattle.program_value_lines.proofs.put_said.Goals as goal

pub put_bytes-begun-requires : goal.put_bytes-begun-requires
unfolding said_text
put_bytes-begun-requires c = room_first c.args.at (ascii " (01: ") (c.args.said.now ++ ascii ")\n") c.requires

pub put_bytes-text-requires : goal.put_bytes-text-requires
unfolding said_text
put_bytes-text-requires c = let said = c.args.said.now in
    room_first c.put_bytes-begun.result said (ascii ")\n") (put_room (said ++ ascii ")\n") c.put_bytes-begun.ensures c.requires)

pub put_bytes-requires : goal.put_bytes-requires
unfolding said_text
put_bytes-requires c = put_room (ascii ")\n") c.put_bytes-text.ensures
    (put_room (c.args.said.now ++ ascii ")\n") c.put_bytes-begun.ensures c.requires)

pub returns : goal.returns
unfolding said_text
returns c = put_then c.put_bytes-begun.ensures (put_then c.put_bytes-text.ensures c.put_bytes.ensures)
