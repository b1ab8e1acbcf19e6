-- `configuration_writer::measuring::pen_terminals` meets its contract: terminals are resources.
use borrow.Author.Rules.{rules}
use Rattle.configuration.specs.Configuration.{terminals}
use Rattle.configuration_writer.proofs.measuring.pen_terminals.Goals as goal

pub pen_resources-requires : goal.pen_resources-requires
unfolding terminals
pen_resources-requires c = search rules

pub returns : goal.returns
unfolding terminals
returns c = c.pen_resources.ensures
