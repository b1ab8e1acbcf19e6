-- `index_reader::walking::walk_messages` meets its contract: a count, and so many messages; those still to come make the whole.
use Prim.Native.Nat.{◌-◌}
use Rattle.body_formats.specs.Format.{times}
use Rattle.index.specs.Index.{message}
use Rattle.body_walk.proofs.Counts.{Ahead}
use Rattle.index_reader.proofs.walking.walk_messages.Given as goal

abbrev pub invariant-loop-i : goal.invariant-loop-i
invariant-loop-i l = Ahead (times l.n message) l.s l.l l.initial.at l.wet l.initial.tape (times (l.n - l.i) message) l.at l.tape
