-- `configuration_writer::measuring::pen_set_clock` meets its contract: its fields one after the other, which fill the content.
use borrow.Author.Rules.{rules}
use Rattle.body_pen.proofs.Pairs.{pair_pen, exact_pen}
use Rattle.configuration.specs.Configuration.{said}
use Rattle.configuration_writer.proofs.measuring.pen_set_clock.Goals as goal

pub pen_date-a-requires : goal.pen_date-a-requires
unfolding said
pen_date-a-requires c = search rules

pub pen_clock-requires : goal.pen_clock-requires
unfolding said
pen_clock-requires c = search rules

pub returns : goal.returns
unfolding said
returns c pool = simp (exact_pen, pair_pen) (cc (c.pen_date-a.ensures pool, c.pen_clock.ensures pool))
