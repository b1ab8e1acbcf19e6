-- `configuration_reader::walking::walk_commands` meets its contract: a count, and so many commands; those still to come make the whole.
use Prim.Native.Nat.{◌-◌}
use Rattle.body_formats.specs.Format.{times}
use Rattle.configuration.specs.Configuration.{command}
use Rattle.body_walk.proofs.Counts.{Ahead}
use Rattle.configuration_reader.proofs.walking.walk_commands.Given as goal

abbrev pub invariant-loop-i : goal.invariant-loop-i
invariant-loop-i l = Ahead (times l.n command) l.s l.l l.initial.at l.wet l.initial.tape (times (l.n - l.i) command) l.at l.tape
