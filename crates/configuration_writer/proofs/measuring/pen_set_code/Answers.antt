-- `configuration_writer::measuring::pen_set_code` meets its contract: its fields one after the other, which fill the content.
use borrow.Author.Rules.{rules}
use Rattle.body_pen.proofs.Pairs.{pair_pen, exact_pen}
use Rattle.configuration.specs.Configuration.{said}
use Rattle.configuration_writer.proofs.measuring.pen_set_code.Goals as goal

pub pen_part-a-requires : goal.pen_part-a-requires
unfolding said
pen_part-a-requires c = search rules

pub pen_digits-requires : goal.pen_digits-requires
unfolding said
pen_digits-requires c = search rules

pub returns : goal.returns
unfolding said
returns c = simp (exact_pen, pair_pen) (cc)
