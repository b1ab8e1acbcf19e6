-- `content_writer::measuring::pen_auxiliaries` meets its contract: each turn goes past one more, and the turns are as many as the count says.
use Rattle.body_formats.specs.Format.{among, reserved, list_of}
use Rattle.body_pen.specs.Penned.{penned}
use Rattle.body_pen.proofs.Lists.{Underway}
use Rattle.content.specs.Content.{auxiliary}
use Rattle.content_writer.proofs.measuring.pen_auxiliaries.Given as goal

abbrev pub invariant-loop : goal.invariant-loop
invariant-loop l = Underway (auxiliary l.w) l.pool l.tape (penned (list_of (among 0 2 (reserved 4 0)) (auxiliary l.w)) l.pool l.tape l.fn.x) l.n l.counter l.past
