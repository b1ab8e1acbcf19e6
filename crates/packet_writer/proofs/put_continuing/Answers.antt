-- `packet_writer::put_continuing` meets its contract: header, bytes and stuffing, one after the other.
use mathlib.Core.Path.{refl}
use Rattle.packet_writer.proofs.Laying.{laid_packet}
use Rattle.packet_writer.proofs.put_continuing.Goals as goal

pub returns : goal.returns
returns c = let q = c.requires in
    laid_packet _ _ _ _ _ _ _ _ _ c.put_header.ensures c.copy_at.ensures c.put_stuffing.ensures refl refl q.2 q.0
