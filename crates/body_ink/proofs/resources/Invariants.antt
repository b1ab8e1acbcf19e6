-- `body_ink::resources` meets its contract: their count, and as many of them as it says.
use Rattle.body_formats.specs.Resource.{resource}
use Rattle.body_ink.proofs.Lists.{Underway}
use Rattle.body_ink.proofs.resources.Given as goal

abbrev pub invariant-loop : goal.invariant-loop
invariant-loop l = Underway resource l.pool l.tape l.n l.initial.past.at l.initial.past.entry l.initial.out l.counter l.past.at l.past.entry l.out
