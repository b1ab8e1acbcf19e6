-- `configuration_writer::measuring::pen_commands` meets its contract: each turn goes past one more, and the turns are as many as the count says.
use Rattle.body_formats.specs.Format.{count, list_of}
use Rattle.body_pen.specs.Penned.{penned}
use Rattle.body_pen.proofs.Lists.{Underway}
use Rattle.configuration.specs.Configuration.{command}
use Rattle.configuration_writer.proofs.measuring.pen_commands.Given as goal

abbrev pub invariant-loop : goal.invariant-loop
invariant-loop l = Underway command l.pool l.tape (penned (list_of (count 1) command) l.pool l.tape l.fn.x) l.n l.counter l.past
