-- `packet_writer::put_rest` meets its contract: what is still to be laid, on what stands, stays the same from turn to turn.
use Prim.Native.Nat.{◌-◌}
use Rattle.packet_writer.proofs.Packets.{Laying}
use Rattle.packet_writer.proofs.put_rest.Given as goal

abbrev pub invariant-loop-i : goal.invariant-loop-i
invariant-loop-i l = Laying l.initial.out l.section l.k l.i l.out l.c l.counter
