-- `configuration_writer::measuring::pen_tune` meets its contract: its fields one after the other, which fill the content.
use borrow.Author.Rules.{rules}
use Rattle.body_pen.proofs.Pairs.{pair_pen, exact_pen}
use Rattle.configuration.specs.Configuration.{said}
use Rattle.configuration_writer.proofs.measuring.pen_tune.Goals as goal

pub pen_number-a-requires : goal.pen_number-a-requires
unfolding said
pen_number-a-requires c = search rules

pub pen_number-b-requires : goal.pen_number-b-requires
unfolding said
pen_number-b-requires c = search rules

pub pen_among-c-requires : goal.pen_among-c-requires
unfolding said
pen_among-c-requires c = search rules

pub pen_terminals-requires : goal.pen_terminals-requires
unfolding said
pen_terminals-requires c = search rules

pub returns : goal.returns
unfolding said
returns c = let pool = c.args.pool.now in
    simp (exact_pen, pair_pen) (cc (c.pen_number-a.ensures pool, c.pen_number-b.ensures pool, c.pen_among-c.ensures pool))
