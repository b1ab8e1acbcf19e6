-- `content_writer::inking::ink_auxiliaries` meets its contract: their count, and as many of them as it says.
use Rattle.body_ink.proofs.Lists.{Underway}
use Rattle.content.specs.Content.{auxiliary}
use Rattle.content_writer.proofs.inking.ink_auxiliaries.Given as goal

abbrev pub invariant-loop : goal.invariant-loop
invariant-loop l = Underway (auxiliary l.w) l.pool l.tape l.n l.initial.past.at l.initial.past.entry l.initial.out l.counter l.past.at l.past.entry l.out
