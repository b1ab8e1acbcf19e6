-- `index_writer::measuring::pen_messages` meets its contract: each turn goes past one more, and the turns are as many as the count says.
use Rattle.body_formats.specs.Format.{count, list_of}
use Rattle.body_pen.specs.Penned.{penned}
use Rattle.body_pen.proofs.Lists.{Underway}
use Rattle.index.specs.Index.{message}
use Rattle.index_writer.proofs.measuring.pen_messages.Given as goal

abbrev pub invariant-loop : goal.invariant-loop
invariant-loop l = Underway message l.pool l.tape (penned (list_of (count 1) message) l.pool l.tape l.fn.x) l.n l.counter l.past
