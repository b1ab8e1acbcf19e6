-- `body_form_glance::good_resources` meets its contract: each turn sees one resource, and those to come make the whole.
use native.Mathlib.Omega.{arith}
use borrow.Author.Tests.{not-false}
use Rattle.body_formats.specs.Resource.{resource}
use Rattle.body_form_glance.proofs.Forms.{not_good, lays_to}
use Rattle.body_form_glance.proofs.Rows.{coming_start, coming_turn, coming_done}
use Rattle.body_form_glance.proofs.good_resources.Goals as goal

pub loop-i-init : goal.loop-i-init
loop-i-init c = coming_start resource _ _ _ (omega arith) (omega arith)

pub returns-then-not-good_resource : goal.returns-then-not-good_resource
returns-then-not-good_resource c = not_good

pub loop-i-preserved : goal.loop-i-preserved
loop-i-preserved c = coming_turn resource _ _ _ _ c.loop-i.invariant _ _ (omega arith) (omega arith) c.loop-i-test.true
    (c.good_resource.ensures (not-false _ c.if-not-good_resource.false-raw))

pub returns : goal.returns
returns c e = let done = coming_done resource _ _ _ _ c.loop-i.invariant c.loop-i-test.false in
    (done.0, lays_to (omega arith) (omega arith) done.1)
