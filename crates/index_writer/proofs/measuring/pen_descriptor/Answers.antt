-- `index_writer::measuring::pen_descriptor` meets its contract: its fields one after the other, under their names.
use borrow.Author.Rules.{rules}
use Rattle.body_pen.proofs.Pairs.{pair_pen, view_pen}
use Rattle.index.specs.Index.{descriptor}
use Rattle.index_writer.proofs.measuring.pen_descriptor.Goals as goal

pub pen_number-a-requires : goal.pen_number-a-requires
unfolding descriptor
pen_number-a-requires c = search rules

pub pen_part-requires : goal.pen_part-requires
unfolding descriptor
pen_part-requires c = search rules

pub returns : goal.returns
unfolding descriptor
returns c = simp (view_pen, pair_pen) (cc (c.pen_number-a.ensures c.args.pool.now))
