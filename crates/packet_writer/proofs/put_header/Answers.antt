-- `packet_writer::put_header` meets its contract: the four bytes stand in one piece.
use mathlib.Core.Path.{◌∙◌}
use native.Mathlib.Omega.{arith}
use Rattle.section_reader.proofs.Bytes.{placed_part}
use Rattle.packet_writer.proofs.Laying.{header_is, header_length}
use Rattle.packet_writer.proofs.put_header.Goals as goal

pub returns : goal.returns
returns c = placed_part _ _ _ _ (c.copy_from_slice.ensures.after ∙ header_is _ _ _ c.start_byte.ensures) (omega (arith, header_length c.args.start c.args.counter))
