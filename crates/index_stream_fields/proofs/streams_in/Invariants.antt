-- `index_stream_fields::streams_in` meets its contract: those that lie behind and those from here on are all.
use Prim.Native.Nat.{◌-◌}
use Rattle.index.specs.Index.{stream}
use Rattle.index_stream_fields.proofs.Counting.{Counted}
use Rattle.index_stream_fields.proofs.streams_in.Given as goal

abbrev pub invariant-loop-at : goal.invariant-loop-at
invariant-loop-at l = Counted stream l.s l.l l.p l.k l.at

abbrev pub decreases-loop-at : goal.decreases-loop-at
decreases-loop-at l = l.l - l.at
