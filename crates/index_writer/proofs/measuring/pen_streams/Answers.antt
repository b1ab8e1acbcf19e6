-- `index_writer::measuring::pen_streams` meets its contract: its length, they, and then what the length may be.
use borrow.Author.Rules.{rules}
use Rattle.body_pen.proofs.Lengths.{length_pen}
use Rattle.index.specs.Index.{streams}
use Rattle.index_writer.proofs.measuring.pen_streams.Goals as goal

pub gap-a-requires : goal.gap-a-requires
unfolding streams
gap-a-requires c = search rules

pub pen_all_streams-b-requires : goal.pen_all_streams-b-requires
unfolding streams
pen_all_streams-b-requires c = search rules

pub close-requires : goal.close-requires
unfolding streams
close-requires c = search rules

pub returns : goal.returns
unfolding streams
returns c = rw length_pen (cc)
