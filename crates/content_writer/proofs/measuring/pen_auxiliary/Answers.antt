-- `content_writer::measuring::pen_auxiliary` meets its contract: its fields one after the other, under their names.
use borrow.Author.Rules.{rules}
use Rattle.body_pen.proofs.Pairs.{pair_pen, view_pen}
use Rattle.content.specs.Content.{auxiliary}
use Rattle.content_writer.proofs.measuring.pen_auxiliary.Goals as goal

pub pen_number-a-requires : goal.pen_number-a-requires
unfolding auxiliary
pen_number-a-requires c = search rules

pub pen_part-requires : goal.pen_part-requires
unfolding auxiliary
pen_part-requires c = search rules

pub returns : goal.returns
unfolding auxiliary
returns c = simp (view_pen, pair_pen) (cc (c.pen_number-a.ensures c.args.pool.now))
