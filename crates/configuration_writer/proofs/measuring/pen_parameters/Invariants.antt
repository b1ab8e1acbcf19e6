-- `configuration_writer::measuring::pen_parameters` meets its contract: each turn goes past one more, and the turns are as many as the count says.
use Rattle.std.specs.Prelude.{ℕ, List}
use Rattle.body_formats.specs.Format.{count, number, list_of}
use Rattle.body_pen.specs.Penned.{penned}
use Rattle.body_pen.proofs.Lists.{Underway}
use Rattle.configuration_writer.proofs.measuring.pen_parameters.Given as goal

abbrev pub invariant-loop : goal.invariant-loop
invariant-loop l = (pool : List ℕ) → Underway (number 1) pool l.tape (penned (list_of (count 1) (number 1)) pool l.tape l.fn.x) l.n l.counter l.past
