-- `configuration_reader::walking::walk_parameters` meets its contract: a count, and so many parameters; those still to come make the whole.
use Prim.Native.Nat.{◌-◌}
use Rattle.body_formats.specs.Format.{number, times}
use Rattle.body_walk.proofs.Counts.{Ahead}
use Rattle.configuration_reader.proofs.walking.walk_parameters.Given as goal

abbrev pub invariant-loop-i : goal.invariant-loop-i
invariant-loop-i l = Ahead (times l.n (number 1)) l.s l.l l.initial.at l.wet l.initial.tape (times (l.n - l.i) (number 1)) l.at l.tape
