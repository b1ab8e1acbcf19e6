-- `content_reader::walking::walk_auxiliaries` meets its contract: a count, and so many auxiliary files; those still to come make the whole.
use Prim.Native.Nat.{◌-◌}
use Rattle.body_formats.specs.Format.{times}
use Rattle.content.specs.Content.{auxiliary}
use Rattle.body_walk.proofs.Counts.{Ahead}
use Rattle.content_reader.proofs.walking.walk_auxiliaries.Given as goal

abbrev pub invariant-loop-i : goal.invariant-loop-i
invariant-loop-i l = Ahead (times l.n (auxiliary l.w)) l.s l.l l.initial.at l.wet l.initial.tape (times (l.n - l.i) (auxiliary l.w)) l.at l.tape
