-- `configuration_writer::measuring::pen_configuration` meets its contract: its commands and then its signature, under their names.
use borrow.Author.Rules.{rules}
use Rattle.body_pen.proofs.Pairs.{pair_pen, view_pen, exact_pen}
use Rattle.configuration.specs.Configuration.{fields, configuration}
use Rattle.configuration_writer.proofs.measuring.pen_configuration.Goals as goal

pub pen_commands-a-requires : goal.pen_commands-a-requires
unfolding configuration fields
pen_commands-a-requires c = search rules

pub pen_part-requires : goal.pen_part-requires
unfolding configuration fields
pen_part-requires c = search rules

pub returns : goal.returns
unfolding configuration fields
returns c = simp (exact_pen, view_pen, pair_pen) (cc)
