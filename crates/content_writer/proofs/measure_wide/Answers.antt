-- `content_writer::measure_wide` meets its contract: a pen goes through the whole form.
use Rattle.body_pen.proofs.Writers.{measured_is}
use Rattle.content_writer.proofs.measure_wide.Goals as goal

pub returns : goal.returns
returns c = rw (← measured_is) (cc)
