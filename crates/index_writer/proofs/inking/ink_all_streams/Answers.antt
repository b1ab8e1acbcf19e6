-- `index_writer::inking::ink_all_streams` meets its contract: as many as the tape says.
use native.Mathlib.Omega.{arith}
use Rattle.body_ink.proofs.Lists.{many_count, many_ready, many_inked, times_start, times_next, times_turn, times_done}
use Rattle.index.specs.Index.{stream}
use Rattle.index_writer.proofs.inking.ink_all_streams.Goals as goal

pub overflow_add-past : goal.overflow_add-past
overflow_add-past c = omega (arith, many_count stream c.requires)

pub offset_bounds-tape-k : goal.offset_bounds-tape-k
offset_bounds-tape-k c = omega (arith, many_count stream c.requires)

pub bounds-tape-k : goal.bounds-tape-k
bounds-tape-k c = omega (arith, many_count stream c.requires)

pub loop-init : goal.loop-init
loop-init c = times_start (many_ready stream c.requires)

pub ink_stream-past-requires : goal.ink_stream-past-requires
ink_stream-past-requires c = times_next c.loop.invariant c.loop-test.true

pub loop-preserved : goal.loop-preserved
loop-preserved c = times_turn c.loop.invariant c.loop-test.true c.ink_stream-past.ensures

pub returns : goal.returns
returns c = many_inked stream (times_done c.loop.invariant c.loop-test.false)
