-- `index_writer::inking::ink_head` meets its contract: its fields one after the other.
use native.Mathlib.Omega.{arith}
use borrow.Author.Rules.{rules}
use Rattle.body_formats.specs.Identifier.{unreal_day, identifier}
use Rattle.body_ink.proofs.Pairs.{pair_inked, only_inked}
use Rattle.body_ink.proofs.Numbers.{a_number, numeral_inked, nibbles_inked}
use Rattle.body_ink.proofs.Strings.{bytes_inked}
use Rattle.index.specs.Index.{head}
use Rattle.index_writer.proofs.Inkings.{a_time, an_end, identifier_ready, head_ready}
use Rattle.index_writer.proofs.inking.ink_head.Goals as goal

pub digits-requires : goal.digits-requires
unfolding head identifier
digits-requires c = identifier_ready c.requires

pub overflow_add-at : goal.overflow_add-at
unfolding head identifier
overflow_add-at c = omega (arith, head_ready c.requires)

pub overflow_add-k : goal.overflow_add-k
unfolding head identifier
overflow_add-k c = omega (arith, head_ready c.requires)

pub offset_bounds-tape-k : goal.offset_bounds-tape-k
unfolding head identifier
offset_bounds-tape-k c = omega (arith, head_ready c.requires)

pub bounds-tape-k : goal.bounds-tape-k
unfolding head identifier
bounds-tape-k c = omega (arith, head_ready c.requires)

pub number-requires : goal.number-requires
unfolding head identifier
number-requires c = omega (arith, head_ready c.requires)

pub overflow_add-at-2 : goal.overflow_add-at-2
unfolding head identifier
overflow_add-at-2 c = omega (arith, head_ready c.requires)

pub overflow_add-k-2 : goal.overflow_add-k-2
unfolding head identifier
overflow_add-k-2 c = omega (arith, head_ready c.requires)

pub offset_bounds-tape-k-2 : goal.offset_bounds-tape-k-2
unfolding head identifier
offset_bounds-tape-k-2 c = omega (arith, head_ready c.requires)

pub bounds-tape-k-2 : goal.bounds-tape-k-2
unfolding head identifier
bounds-tape-k-2 c = omega (arith, head_ready c.requires)

pub number-requires-2 : goal.number-requires-2
unfolding head identifier
number-requires-2 c = omega (arith, head_ready c.requires)

pub overflow_add-at-3 : goal.overflow_add-at-3
unfolding head identifier
overflow_add-at-3 c = omega (arith, head_ready c.requires)

pub overflow_add-k-3 : goal.overflow_add-k-3
unfolding head identifier
overflow_add-k-3 c = omega (arith, head_ready c.requires)

pub offset_bounds-tape-k-3 : goal.offset_bounds-tape-k-3
unfolding head identifier
offset_bounds-tape-k-3 c = omega (arith, head_ready c.requires)

pub bounds-tape-k-3 : goal.bounds-tape-k-3
unfolding head identifier
bounds-tape-k-3 c = omega (arith, head_ready c.requires)

pub number-requires-3 : goal.number-requires-3
unfolding head identifier
number-requires-3 c = omega (arith, head_ready c.requires)

pub overflow_add-k-4 : goal.overflow_add-k-4
unfolding head identifier
overflow_add-k-4 c = omega (arith, head_ready c.requires)

pub offset_bounds-tape-k-4 : goal.offset_bounds-tape-k-4
unfolding head identifier
offset_bounds-tape-k-4 c = omega (arith, head_ready c.requires)

pub bounds-tape-k-4 : goal.bounds-tape-k-4
unfolding head identifier
bounds-tape-k-4 c = omega (arith, head_ready c.requires)

pub overflow_add-at-4 : goal.overflow_add-at-4
unfolding head identifier
overflow_add-at-4 c = omega (arith, head_ready c.requires)

pub copy-requires : goal.copy-requires
unfolding head identifier
copy-requires c = let r = head_ready c.requires in
    (omega arith, omega arith)

pub overflow_add-at-5 : goal.overflow_add-at-5
unfolding head identifier
overflow_add-at-5 c = omega (arith, head_ready c.requires)

pub overflow_add-k-5 : goal.overflow_add-k-5
unfolding head identifier
overflow_add-k-5 c = omega (arith, head_ready c.requires)

pub offset_bounds-tape-k-5 : goal.offset_bounds-tape-k-5
unfolding head identifier
offset_bounds-tape-k-5 c = omega (arith, head_ready c.requires)

pub bounds-tape-k-5 : goal.bounds-tape-k-5
unfolding head identifier
bounds-tape-k-5 c = omega (arith, head_ready c.requires)

pub overflow_mul-tape : goal.overflow_mul-tape
unfolding head identifier
overflow_mul-tape c = omega (arith, head_ready c.requires)

pub overflow_add-k-6 : goal.overflow_add-k-6
unfolding head identifier
overflow_add-k-6 c = omega (arith, head_ready c.requires)

pub offset_bounds-tape-k-6 : goal.offset_bounds-tape-k-6
unfolding head identifier
offset_bounds-tape-k-6 c = omega (arith, head_ready c.requires)

pub bounds-tape-k-6 : goal.bounds-tape-k-6
unfolding head identifier
bounds-tape-k-6 c = omega (arith, head_ready c.requires)

pub overflow_add-tape : goal.overflow_add-tape
unfolding head identifier
overflow_add-tape c = omega (arith, head_ready c.requires)

pub number-requires-4 : goal.number-requires-4
unfolding head identifier
number-requires-4 c = omega (arith, head_ready c.requires)

pub shape_of-out : goal.shape_of-out
unfolding head identifier
shape_of-out c = search rules

pub returns : goal.returns
unfolding head identifier
returns c = pair_inked (only_inked c.digits.ensures unreal_day)
    (pair_inked (numeral_inked (a_number 2) c.number.ensures (omega arith) (omega arith))
    (pair_inked (numeral_inked a_time c.number-2.ensures (omega arith) (omega arith))
    (pair_inked (numeral_inked an_end c.number-3.ensures (omega arith) (omega arith))
    (pair_inked (only_inked (bytes_inked 5 c.copy.ensures (omega arith) (omega arith)) _)
    (nibbles_inked 1 4 (omega arith) c.number-4.ensures (omega arith) (omega arith))))))
