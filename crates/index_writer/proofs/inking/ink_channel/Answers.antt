-- `index_writer::inking::ink_channel` meets its contract: its fields one after the other, under their names.
use mathlib.Core.Path.{refl}
use native.Mathlib.Omega.{arith}
use borrow.Author.Rules.{rules}
use Rattle.body_ink.proofs.Pairs.{moved, view_inked, pair_inked}
use Rattle.body_ink.proofs.Numbers.{a_number, after_bits, numeral_inked}
use Rattle.index.specs.Index.{channel_fields, channel}
use Rattle.index_writer.proofs.Inkings.{channel_ready}
use Rattle.index_writer.proofs.inking.ink_channel.Goals as goal

pub offset_bounds-tape-k : goal.offset_bounds-tape-k
unfolding channel channel_fields
offset_bounds-tape-k c = omega (arith, channel_ready c.requires)

pub bounds-tape-k : goal.bounds-tape-k
unfolding channel channel_fields
bounds-tape-k c = omega (arith, channel_ready c.requires)

pub number-requires : goal.number-requires
unfolding channel channel_fields
number-requires c = omega (arith, channel_ready c.requires)

pub overflow_add-at : goal.overflow_add-at
unfolding channel channel_fields
overflow_add-at c = omega (arith, channel_ready c.requires)

pub overflow_add-k : goal.overflow_add-k
unfolding channel channel_fields
overflow_add-k c = omega (arith, channel_ready c.requires)

pub offset_bounds-tape-k-2 : goal.offset_bounds-tape-k-2
unfolding channel channel_fields
offset_bounds-tape-k-2 c = omega (arith, channel_ready c.requires)

pub bounds-tape-k-2 : goal.bounds-tape-k-2
unfolding channel channel_fields
bounds-tape-k-2 c = omega (arith, channel_ready c.requires)

pub number-requires-2 : goal.number-requires-2
unfolding channel channel_fields
number-requires-2 c = omega (arith, channel_ready c.requires)

pub overflow_add-at-2 : goal.overflow_add-at-2
unfolding channel channel_fields
overflow_add-at-2 c = omega (arith, channel_ready c.requires)

pub overflow_add-k-2 : goal.overflow_add-k-2
unfolding channel channel_fields
overflow_add-k-2 c = omega (arith, channel_ready c.requires)

pub offset_bounds-tape-k-3 : goal.offset_bounds-tape-k-3
unfolding channel channel_fields
offset_bounds-tape-k-3 c = omega (arith, channel_ready c.requires)

pub bounds-tape-k-3 : goal.bounds-tape-k-3
unfolding channel channel_fields
bounds-tape-k-3 c = omega (arith, channel_ready c.requires)

pub number-requires-3 : goal.number-requires-3
unfolding channel channel_fields
number-requires-3 c = omega (arith, channel_ready c.requires)

pub overflow_add-at-3 : goal.overflow_add-at-3
unfolding channel channel_fields
overflow_add-at-3 c = omega (arith, channel_ready c.requires)

pub overflow_add-k-3 : goal.overflow_add-k-3
unfolding channel channel_fields
overflow_add-k-3 c = omega (arith, channel_ready c.requires)

pub offset_bounds-tape-k-4 : goal.offset_bounds-tape-k-4
unfolding channel channel_fields
offset_bounds-tape-k-4 c = omega (arith, channel_ready c.requires)

pub bounds-tape-k-4 : goal.bounds-tape-k-4
unfolding channel channel_fields
bounds-tape-k-4 c = omega (arith, channel_ready c.requires)

pub overflow_add-tape : goal.overflow_add-tape
unfolding channel channel_fields
overflow_add-tape c = omega (arith, channel_ready c.requires)

pub number-requires-4 : goal.number-requires-4
unfolding channel channel_fields
number-requires-4 c = omega (arith, channel_ready c.requires)

pub overflow_add-k-4 : goal.overflow_add-k-4
unfolding channel channel_fields
overflow_add-k-4 c = omega (arith, channel_ready c.requires)

pub overflow_add-at-4 : goal.overflow_add-at-4
unfolding channel channel_fields
overflow_add-at-4 c = omega (arith, channel_ready c.requires)

pub ink_channel_parts-requires : goal.ink_channel_parts-requires
unfolding channel channel_fields
ink_channel_parts-requires c = moved (channel_ready c.requires).4 refl refl (search rules)

pub shape_of-out : goal.shape_of-out
unfolding channel channel_fields
shape_of-out c = search rules

pub returns : goal.returns
unfolding channel channel_fields
returns c = view_inked (pair_inked (numeral_inked (a_number 2) c.number.ensures refl refl)
    (pair_inked (numeral_inked (a_number 2) c.number-2.ensures (omega arith) (omega arith))
    (pair_inked (numeral_inked (a_number 2) c.number-3.ensures (omega arith) (omega arith))
    (pair_inked (numeral_inked (after_bits 3 1) c.number-4.ensures (omega arith) (omega arith)) c.ink_channel_parts.ensures))))
    _ _ (λ a. refl)
