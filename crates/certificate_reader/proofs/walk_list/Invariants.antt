-- `certificate_reader::walk_list` meets its contract: a count, and so many parts; those still to come make the whole.
use Prim.Native.Nat.{◌-◌}
use Rattle.body_formats.specs.Format.{times, opaque}
use Rattle.body_walk.proofs.Counts.{Ahead}
use Rattle.certificate_reader.proofs.walk_list.Given as goal

abbrev pub invariant-loop-i : goal.invariant-loop-i
invariant-loop-i l = Ahead (times l.n (opaque l.w)) l.s l.l l.initial.at l.wet l.initial.tape (times (l.n - l.i) (opaque l.w)) l.at l.tape
