-- `certificate_writer::glancing::parts_bytes` meets its contract: each turn sees one part, and those to come make the whole.
use native.Mathlib.Omega.{arith}
use Rattle.ground_choices.proofs.Tests.{met}
use Rattle.body_formats.specs.Format.{opaque}
use Rattle.body_form_glance.proofs.Forms.{lays_to, part_laid}
use Rattle.body_form_glance.proofs.Rows.{coming_start, coming_turn, coming_done}
use Rattle.certificate_writer.proofs.Glances.{limit_most}
use Rattle.certificate_writer.proofs.glancing.parts_bytes.Goals as goal

pub loop-i-init : goal.loop-i-init
loop-i-init c = (coming_start (opaque _) _ _ _ (omega arith) (omega arith), omega arith, omega arith, limit_most _ (omega arith) c.requires.3)

pub returns-then-limit-tape : goal.returns-then-limit-tape
returns-then-limit-tape c = (omega arith, λ m e. absurd (omega arith))

pub returns-then-not-good_span : goal.returns-then-not-good_span
returns-then-not-good_span c = (omega arith, λ m e. absurd (omega arith))

pub loop-i-preserved : goal.loop-i-preserved
loop-i-preserved c = let v = c.loop-i.invariant in (
  coming_turn (opaque _) _ _ _ _ v.0 _ _ (omega arith) (omega arith) c.loop-i-test.true
      (part_laid _ _ _ _ c.requires.3 (omega arith) (omega arith) (met _ c.good_span.ensures c.if-not-good_span.false-raw)),
  omega arith,
  omega arith,
  omega arith,
)

pub returns : goal.returns
returns c = let done = coming_done (opaque _) _ _ _ _ c.loop-i.invariant.0 c.loop-i-test.false in
    (omega arith, λ m e. (done.0, lays_to (omega arith) (omega arith) done.1))
