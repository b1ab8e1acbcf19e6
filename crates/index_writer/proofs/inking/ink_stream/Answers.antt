-- `index_writer::inking::ink_stream` meets its contract: its fields one after the other, under their names.
use mathlib.Core.Path.{refl}
use native.Mathlib.Omega.{arith}
use borrow.Author.Rules.{rules}
use Rattle.body_ink.proofs.Pairs.{moved, view_inked, pair_inked}
use Rattle.body_ink.proofs.Numbers.{a_number, after_bits, numeral_inked}
use Rattle.index.specs.Index.{stream_fields, stream}
use Rattle.index_writer.proofs.Inkings.{stream_ready}
use Rattle.index_writer.proofs.inking.ink_stream.Goals as goal

pub offset_bounds-tape-k : goal.offset_bounds-tape-k
unfolding stream stream_fields
offset_bounds-tape-k c = omega (arith, stream_ready c.requires)

pub bounds-tape-k : goal.bounds-tape-k
unfolding stream stream_fields
bounds-tape-k c = omega (arith, stream_ready c.requires)

pub number-requires : goal.number-requires
unfolding stream stream_fields
number-requires c = omega (arith, stream_ready c.requires)

pub overflow_add-at : goal.overflow_add-at
unfolding stream stream_fields
overflow_add-at c = omega (arith, stream_ready c.requires)

pub overflow_add-k : goal.overflow_add-k
unfolding stream stream_fields
overflow_add-k c = omega (arith, stream_ready c.requires)

pub offset_bounds-tape-k-2 : goal.offset_bounds-tape-k-2
unfolding stream stream_fields
offset_bounds-tape-k-2 c = omega (arith, stream_ready c.requires)

pub bounds-tape-k-2 : goal.bounds-tape-k-2
unfolding stream stream_fields
bounds-tape-k-2 c = omega (arith, stream_ready c.requires)

pub overflow_add-tape : goal.overflow_add-tape
unfolding stream stream_fields
overflow_add-tape c = omega (arith, stream_ready c.requires)

pub number-requires-2 : goal.number-requires-2
unfolding stream stream_fields
number-requires-2 c = omega (arith, stream_ready c.requires)

pub overflow_add-k-2 : goal.overflow_add-k-2
unfolding stream stream_fields
overflow_add-k-2 c = omega (arith, stream_ready c.requires)

pub overflow_add-at-2 : goal.overflow_add-at-2
unfolding stream stream_fields
overflow_add-at-2 c = omega (arith, stream_ready c.requires)

pub ink_descriptors-requires : goal.ink_descriptors-requires
unfolding stream stream_fields
ink_descriptors-requires c = moved (stream_ready c.requires).4 refl refl (search rules)

pub shape_of-out : goal.shape_of-out
unfolding stream stream_fields
shape_of-out c = search rules

pub returns : goal.returns
unfolding stream stream_fields
returns c = view_inked (pair_inked (numeral_inked (a_number 1) c.number.ensures refl refl)
    (pair_inked (numeral_inked (after_bits 3 1) c.number-2.ensures (omega arith) (omega arith)) c.ink_descriptors.ensures))
    _ _ (λ a. refl)
