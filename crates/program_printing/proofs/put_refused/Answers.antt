-- `program_printing::put_refused` meets its contract: the word and the number, one after the other.
use Rattle.ground_refusal.specs.Numbers.{refusal_number}
use Rattle.program_printing.specs.Characters.{ascii, decimal_of, refused_text}
use Rattle.ground_placing.proofs.Putting.{room_first, put_room, put_then}
use Rattle.program_printing.proofs.put_refused.Goals as goal

pub put_bytes-after-requires : goal.put_bytes-after-requires
unfolding refused_text
put_bytes-after-requires c = room_first c.args.at (ascii "refused ") (decimal_of (refusal_number c.args.r)) c.requires

pub put_decimal-requires : goal.put_decimal-requires
unfolding refused_text
put_decimal-requires c = rw c.number.ensures (put_room (decimal_of (refusal_number c.args.r)) c.put_bytes-after.ensures c.requires)

pub returns : goal.returns
unfolding refused_text
returns c = put_then c.put_bytes-after.ensures (rw c.number.ensures at c.put_decimal.ensures)
