-- `index_channel_reader::glancing::good_descriptors` meets its contract: each turn finds one descriptor, and what fills the rest makes the whole.
use Prim.Native.Nat.{◌-◌, ◌≤◌}
use native.Mathlib.Omega.{arith}
use Rattle.body_glance.proofs.Runs.{filling_turn, filling_done}
use Rattle.body_glance.proofs.Leaves.{not_good}
use Rattle.index.specs.Index.{descriptor}
use Rattle.index_channel_reader.proofs.Glances.{descriptor_good}
use Rattle.index_channel_reader.proofs.glancing.good_descriptors.Goals as goal

pub loop-at-init : goal.loop-at-init
loop-at-init c = (λ xs f. (xs, f), omega arith)

pub returns-then-l-at-lt2 : goal.returns-then-l-at-lt2
returns-then-l-at-lt2 c = not_good

pub returns-then-l-at : goal.returns-then-l-at
returns-then-l-at c = not_good

pub loop-at-preserved : goal.loop-at-preserved
loop-at-preserved c = (
  filling_turn descriptor _ c.loop-at.invariant.0 (omega arith) (omega arith) (omega arith)
      (descriptor_good _ _ (λ i. (c.type_inv.s i).fits) (omega arith)),
  omega arith,
)

pub returns : goal.returns
returns c e = filling_done descriptor _ c.loop-at.invariant.0 (omega arith)
