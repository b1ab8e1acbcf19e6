-- `packet_writer::put_packets` meets its contract: the first packet, and then the rest.
use mathlib.Core.Path.{refl, sym}
use native.Mathlib.Omega.{arith}
use lib.ListN.{length-take}
use lib.Seq.{length-take-le}
use Rattle.packet_writer.proofs.Packets.{front_is, laid_packed}
use Rattle.packet_writer.proofs.put_packets.Goals as goal

pub slice_bounds-put_first-end : goal.slice_bounds-put_first-end
slice_bounds-put_first-end c = let e = c.min-end.ensures in
    sym (length-take-le c.min-end.result c.args.section.now (omega arith))

pub put_first-requires : goal.put_first-requires
put_first-requires c = let e = c.min-end.ensures in
    let q = c.requires in
    let r = q.0 in
    (omega arith, q.1, omega (arith, length-take c.min-end.result c.args.section.now))

pub put_rest-requires : goal.put_rest-requires
put_rest-requires c = let q = c.requires in
    let r = q.0 in
    let l = q.2 in
    record { room = omega arith; least = omega arith; most = omega arith; low = omega arith; few = omega arith }

pub returns : goal.returns
returns c = let r = c.requires.0 in
    laid_packed _ _ _ c.args.section.now _ _ _ c.put_first.ensures c.put_rest.ensures
    (front_is c.args.section.now _ c.min-end.ensures) refl (omega arith)
