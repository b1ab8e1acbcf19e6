-- `index_channel_reader::glancing::good_streams` meets its contract: each turn finds one stream, and what fills the rest makes the whole.
use Prim.Native.Nat.{◌-◌, ◌≤◌}
use Rattle.body_glance.proofs.Runs.{Filling}
use Rattle.index.specs.Index.{stream}
use Rattle.index_channel_reader.proofs.glancing.good_streams.Given as goal

abbrev pub invariant-loop-at : goal.invariant-loop-at
invariant-loop-at l = Filling stream l.s l.l l.p l.at × (l.at ≤ l.l)

abbrev pub decreases-loop-at : goal.decreases-loop-at
decreases-loop-at l = l.l - l.at
