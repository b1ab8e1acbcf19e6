-- `body_pen::pen_resources` meets its contract: each turn goes past one more, and the turns are as many as the count says.
use Rattle.body_formats.specs.Resource.{resource, resources}
use Rattle.body_pen.specs.Penned.{penned}
use Rattle.body_pen.proofs.Lists.{Underway}
use Rattle.body_pen.proofs.pen_resources.Given as goal

abbrev pub invariant-loop : goal.invariant-loop
invariant-loop l = Underway resource l.pool l.tape (penned resources l.pool l.tape l.fn.x) l.n l.counter l.past
