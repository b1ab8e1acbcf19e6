-- `configuration_writer::measuring::pen_set_volume` meets its contract: its fields one after the other, which fill the content.
use borrow.Author.Rules.{rules}
use Rattle.body_pen.proofs.Pairs.{pair_pen, exact_pen}
use Rattle.configuration.specs.Configuration.{said}
use Rattle.configuration_writer.proofs.measuring.pen_set_volume.Goals as goal

pub pen_among-a-requires : goal.pen_among-a-requires
unfolding said
pen_among-a-requires c = search rules

pub pen_terminals-requires : goal.pen_terminals-requires
unfolding said
pen_terminals-requires c = search rules

pub returns : goal.returns
unfolding said
returns c = simp (exact_pen, pair_pen) (cc (c.pen_among-a.ensures c.args.pool.now))
