-- `content_writer::inking::ink_languages` meets its contract: their count, and as many of them as it says.
use Rattle.body_ink.proofs.Lists.{Underway}
use Rattle.content.specs.Content.{language}
use Rattle.content_writer.proofs.inking.ink_languages.Given as goal

abbrev pub invariant-loop : goal.invariant-loop
invariant-loop l = Underway (language l.w) l.pool l.tape l.n l.initial.past.at l.initial.past.entry l.initial.out l.counter l.past.at l.past.entry l.out
