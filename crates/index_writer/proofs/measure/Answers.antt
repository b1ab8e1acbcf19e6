-- `index_writer::measure` meets its contract: a pen goes through the whole form.
use Rattle.body_pen.proofs.Writers.{measured_is}
use Rattle.index_writer.proofs.measure.Goals as goal

pub returns : goal.returns
returns c = rw (← measured_is) (cc)
