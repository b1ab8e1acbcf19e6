-- `certificate_writer::pen_list` meets its contract: each turn goes past one more, and the turns are as many as the count says.
use Rattle.body_formats.specs.Format.{opaque}
use Rattle.body_pen.specs.Penned.{penned}
use Rattle.body_pen.proofs.Lists.{Underway}
use Rattle.certificate.specs.Certificate.{parts}
use Rattle.certificate_writer.proofs.pen_list.Given as goal

abbrev pub invariant-loop : goal.invariant-loop
invariant-loop l = Underway (opaque l.w) l.pool l.tape (penned (parts l.w) l.pool l.tape l.fn.x) l.n l.counter l.past
