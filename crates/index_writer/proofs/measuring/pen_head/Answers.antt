-- `index_writer::measuring::pen_head` meets its contract: its fields one after the other.
use borrow.Author.Rules.{rules}
use Rattle.body_pen.proofs.Pairs.{pair_pen}
use Rattle.index.specs.Index.{head}
use Rattle.index_writer.proofs.measuring.pen_head.Goals as goal

pub pen_identifier-a-requires : goal.pen_identifier-a-requires
unfolding head
pen_identifier-a-requires c = search rules

pub pen_number-b-requires : goal.pen_number-b-requires
unfolding head
pen_number-b-requires c = search rules

pub pen_time-c-requires : goal.pen_time-c-requires
unfolding head
pen_time-c-requires c = search rules

pub pen_end-d-requires : goal.pen_end-d-requires
unfolding head
pen_end-d-requires c = search rules

pub pen_bytes-e-requires : goal.pen_bytes-e-requires
unfolding head
pen_bytes-e-requires c = search rules

pub pen_nibbles-requires : goal.pen_nibbles-requires
unfolding head
pen_nibbles-requires c = search rules

pub returns : goal.returns
unfolding head
returns c = let pool = c.args.pool.now in
    simp pair_pen (cc (c.pen_number-b.ensures pool, c.pen_time-c.ensures pool, c.pen_end-d.ensures pool, c.pen_nibbles.ensures pool))
