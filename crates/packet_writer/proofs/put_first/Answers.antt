-- `packet_writer::put_first` meets its contract: header, pointer, bytes and stuffing, one after the other.
use mathlib.Core.Path.{refl}
use Rattle.packet_writer.proofs.Laying.{laid_first}
use Rattle.packet_writer.proofs.put_first.Goals as goal

pub returns : goal.returns
returns c = let q = c.requires in
    laid_first _ _ _ _ _ _ _ _ _ c.put_header.ensures c.put_byte.ensures c.copy_at.ensures
    c.put_stuffing.ensures refl refl q.2 q.0
