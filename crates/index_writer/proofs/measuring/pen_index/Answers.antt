-- `index_writer::measuring::pen_index` meets its contract: its messages and then its signature, under their names.
use borrow.Author.Rules.{rules}
use Rattle.body_pen.proofs.Pairs.{pair_pen, view_pen, exact_pen}
use Rattle.index.specs.Index.{fields, index}
use Rattle.index_writer.proofs.measuring.pen_index.Goals as goal

pub pen_messages-a-requires : goal.pen_messages-a-requires
unfolding index fields
pen_messages-a-requires c = search rules

pub pen_part-requires : goal.pen_part-requires
unfolding index fields
pen_part-requires c = search rules

pub returns : goal.returns
unfolding index fields
returns c = simp (exact_pen, view_pen, pair_pen) (cc)
