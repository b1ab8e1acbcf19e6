-- `certificate_writer::inking::ink_list` meets its contract: a count, and as many parts as it says.
use Rattle.body_formats.specs.Format.{opaque}
use Rattle.body_ink.proofs.Lists.{Underway}
use Rattle.certificate_writer.proofs.inking.ink_list.Given as goal

abbrev pub invariant-loop : goal.invariant-loop
invariant-loop l = Underway (opaque l.w) l.pool l.tape l.n l.initial.past.at l.initial.past.entry l.initial.out l.counter l.past.at l.past.entry l.out
