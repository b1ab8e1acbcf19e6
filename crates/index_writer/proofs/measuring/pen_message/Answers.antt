-- `index_writer::measuring::pen_message` meets its contract: its length, its fields, which fill it, and then what the length may be.
use borrow.Author.Rules.{rules}
use Rattle.body_pen.proofs.Lengths.{length_pen}
use Rattle.body_pen.proofs.Pairs.{pair_pen, view_pen, exact_pen}
use Rattle.index.specs.Index.{message_fields, message}
use Rattle.index_writer.proofs.measuring.pen_message.Goals as goal

pub gap-a-requires : goal.gap-a-requires
unfolding message message_fields
gap-a-requires c = search rules

pub pen_head-b-requires : goal.pen_head-b-requires
unfolding message message_fields
pen_head-b-requires c = search rules

pub pen_resources-c-requires : goal.pen_resources-c-requires
unfolding message message_fields
pen_resources-c-requires c = search rules

pub pen_flagged-d-requires : goal.pen_flagged-d-requires
unfolding message message_fields
pen_flagged-d-requires c = search rules

pub close-requires : goal.close-requires
unfolding message message_fields
close-requires c = search rules

pub returns : goal.returns
unfolding message message_fields
returns c = rw length_pen (simp (exact_pen, view_pen, pair_pen) (cc))
