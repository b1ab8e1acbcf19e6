-- `index_writer::measuring::pen_all_streams` meets its contract: each turn goes past one more, and the turns are as many as the tape says.
use Rattle.body_formats.specs.Format.{many}
use Rattle.body_pen.specs.Penned.{penned}
use Rattle.body_pen.proofs.Lists.{Underway}
use Rattle.index.specs.Index.{stream}
use Rattle.index_writer.proofs.measuring.pen_all_streams.Given as goal

abbrev pub invariant-loop : goal.invariant-loop
invariant-loop l = Underway stream l.pool l.tape (penned (many stream) l.pool l.tape l.fn.x) l.n l.counter l.past
