-- `index_channel_reader::glancing::good_streams` meets its contract: each turn finds one stream, and what fills the rest makes the whole.
use Prim.Native.Nat.{◌-◌, ◌≤◌}
use native.Mathlib.Omega.{arith}
use Rattle.body_glance.proofs.Runs.{filling_turn, filling_done}
use Rattle.body_glance.proofs.Leaves.{not_good}
use Rattle.index.specs.Index.{stream}
use Rattle.index_channel_reader.proofs.glancing.good_streams.Goals as goal

pub loop-at-init : goal.loop-at-init
loop-at-init c = (λ xs f. (xs, f), omega arith)

pub returns-then-l-at-lt5 : goal.returns-then-l-at-lt5
returns-then-l-at-lt5 c = not_good

pub returns-then-l-at : goal.returns-then-l-at
returns-then-l-at c = not_good

pub returns-then-not-good_stream : goal.returns-then-not-good_stream
returns-then-not-good_stream c = not_good

pub loop-at-preserved : goal.loop-at-preserved
loop-at-preserved c = (
  filling_turn stream _ c.loop-at.invariant.0 (omega arith) (omega arith) (omega arith) (c.good_stream.ensures c.if-not-good_stream.false),
  omega arith,
)

pub returns : goal.returns
returns c e = filling_done stream _ c.loop-at.invariant.0 (omega arith)
