-- `configuration_writer::glancing::good_parameters` meets its contract: each turn sees one number of one byte, and those to come make the whole.
use mathlib.Core.Path.{refl}
use native.Mathlib.Omega.{arith}
use Rattle.body_form_glance.proofs.Forms.{not_good, lays_to, lays_number}
use Rattle.body_form_glance.proofs.Rows.{coming_start, coming_turn, coming_done}
use Rattle.body_formats.specs.Format.{number}
use Rattle.configuration_writer.proofs.glancing.good_parameters.Goals as goal

pub loop-i-init : goal.loop-i-init
loop-i-init c = coming_start (number 1) _ _ _ (omega arith) (omega arith)

pub returns-then-tape-k-gt255 : goal.returns-then-tape-k-gt255
returns-then-tape-k-gt255 c = not_good

pub loop-i-preserved : goal.loop-i-preserved
loop-i-preserved c = coming_turn (number 1) _ _ _ _ c.loop-i.invariant _ _ (omega arith) (omega arith) c.loop-i-test.true
    (_, lays_number refl (omega arith) 1 (omega arith))

pub returns : goal.returns
returns c e = let done = coming_done (number 1) _ _ _ _ c.loop-i.invariant c.loop-i-test.false in
    (done.0, lays_to (omega arith) (omega arith) done.1)
