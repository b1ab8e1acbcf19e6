-- `certificate_writer::measure` meets its contract: what a glance takes for good is laid out, and through any other form a pen goes.
use Rattle.body_form_glance.proofs.Forms.{measured_laid}
use Rattle.body_pen.proofs.Writers.{measured_is}
use Rattle.certificate.specs.Certificate.{certificate}
use Rattle.certificate_writer.proofs.measure.Goals as goal

pub returns-then-seen-gt0 : goal.returns-then-seen-gt0
returns-then-seen-gt0 c = measured_laid certificate c.certificate_bytes-seen.ensures.short (c.certificate_bytes-seen.ensures.laid c.if-seen-gt0.true).1

pub returns : goal.returns
returns c = rw (← measured_is) (cc)
