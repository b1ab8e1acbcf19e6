-- `configuration_writer::measuring::pen_query` meets its contract: its fields one after the other, which fill the content.
use borrow.Author.Rules.{rules}
use Rattle.body_pen.proofs.Pairs.{pair_pen, exact_pen}
use Rattle.configuration.specs.Configuration.{said}
use Rattle.configuration_writer.proofs.measuring.pen_query.Goals as goal

pub pen_parameters-a-requires : goal.pen_parameters-a-requires
unfolding said
pen_parameters-a-requires c = search rules

pub pen_terminals-requires : goal.pen_terminals-requires
unfolding said
pen_terminals-requires c = search rules

pub returns : goal.returns
unfolding said
returns c = simp (exact_pen, pair_pen) (cc (c.pen_parameters-a.ensures c.args.pool.now))
