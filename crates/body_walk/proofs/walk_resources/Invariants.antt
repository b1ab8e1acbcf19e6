-- `body_walk::walk_resources` meets its contract: a count, and so many resources; those still to come make the whole.
use Prim.Native.Nat.{◌-◌}
use Rattle.body_formats.specs.Format.{times}
use Rattle.body_formats.specs.Resource.{resource}
use Rattle.body_walk.proofs.Counts.{Ahead}
use Rattle.body_walk.proofs.walk_resources.Given as goal

abbrev pub invariant-loop-i : goal.invariant-loop-i
invariant-loop-i l = Ahead (times l.n resource) l.s l.l l.initial.at l.wet l.initial.tape (times (l.n - l.i) resource) l.at l.tape
