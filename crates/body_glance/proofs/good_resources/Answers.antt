-- `body_glance::good_resources` meets its contract: each turn finds one resource, and those to come make the whole.
use native.Mathlib.Omega.{arith}
use Rattle.body_formats.specs.Resource.{resource}
use Rattle.body_glance.proofs.Finds.{reads_to}
use Rattle.body_glance.proofs.Runs.{coming_start, coming_turn, coming_done}
use Rattle.body_glance.proofs.Leaves.{not_good}
use Rattle.body_glance.proofs.good_resources.Goals as goal

pub loop-i-init : goal.loop-i-init
loop-i-init c = (coming_start resource _, omega arith)

pub returns-then-not-good_resource : goal.returns-then-not-good_resource
returns-then-not-good_resource c = not_good

pub loop-i-preserved : goal.loop-i-preserved
loop-i-preserved c = (coming_turn resource _ _ _ c.loop-i.invariant.0 (omega arith) (c.good_resource.ensures c.if-not-good_resource.false), omega arith)

pub returns : goal.returns
returns c e = let done = coming_done resource _ _ _ c.loop-i.invariant.0 (omega arith) in
    (done.0, reads_to (omega arith) done.1)
