-- `index_channel_reader::walk_each_descriptor` meets its contract: each turn walks one descriptor nearer to the end of the part, and the count goes before them.
use Prim.Native.Nat.{◌-◌}
use Rattle.body_walk.proofs.Manys.{Along}
use Rattle.index.specs.Index.{descriptor}
use Rattle.index_channel_reader.proofs.walk_each_descriptor.Given as goal

abbrev pub invariant-loop-at : goal.invariant-loop-at
invariant-loop-at l = Along descriptor l.s l.l l.p l.room l.wet l.initial.tape l.n l.at.0 l.at.1 l.tape

abbrev pub decreases-loop-at : goal.decreases-loop-at
decreases-loop-at l = l.l - l.at.0
