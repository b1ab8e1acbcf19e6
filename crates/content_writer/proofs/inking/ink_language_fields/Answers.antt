-- `content_writer::inking::ink_language_fields` meets its contract: its fields one after the other.
use mathlib.Core.Path.{refl}
use native.Mathlib.Omega.{arith}
use borrow.Author.Rules.{rules}
use Rattle.body_ink.proofs.Pairs.{moved, pair_inked, only_inked}
use Rattle.body_ink.proofs.Numbers.{numeral_inked}
use Rattle.body_ink.proofs.Strings.{bytes_inked}
use Rattle.content.specs.Content.{language_fields}
use Rattle.content_writer.proofs.Inkings.{character_set_lem, fields_ready}
use Rattle.content_writer.proofs.inking.ink_language_fields.Goals as goal

pub offset_bounds-tape-k : goal.offset_bounds-tape-k
unfolding language_fields
offset_bounds-tape-k c = omega (arith, fields_ready _ c.requires)

pub bounds-tape-k : goal.bounds-tape-k
unfolding language_fields
bounds-tape-k c = omega (arith, fields_ready _ c.requires)

pub copy-requires : goal.copy-requires
unfolding language_fields
copy-requires c = let r = fields_ready _ c.requires in (omega arith, omega arith)

pub overflow_add-at : goal.overflow_add-at
unfolding language_fields
overflow_add-at c = omega (arith, fields_ready _ c.requires)

pub overflow_add-k : goal.overflow_add-k
unfolding language_fields
overflow_add-k c = omega (arith, fields_ready _ c.requires)

pub offset_bounds-tape-k-2 : goal.offset_bounds-tape-k-2
unfolding language_fields
offset_bounds-tape-k-2 c = omega (arith, fields_ready _ c.requires)

pub bounds-tape-k-2 : goal.bounds-tape-k-2
unfolding language_fields
bounds-tape-k-2 c = omega (arith, fields_ready _ c.requires)

pub overflow_add-tape : goal.overflow_add-tape
unfolding language_fields
overflow_add-tape c = omega (arith, fields_ready _ c.requires)

pub number-requires : goal.number-requires
unfolding language_fields
number-requires c = omega (arith, fields_ready _ c.requires)

pub overflow_add-k-2 : goal.overflow_add-k-2
unfolding language_fields
overflow_add-k-2 c = omega (arith, fields_ready _ c.requires)

pub overflow_add-at-2 : goal.overflow_add-at-2
unfolding language_fields
overflow_add-at-2 c = omega (arith, fields_ready _ c.requires)

pub ink_language_parts-requires : goal.ink_language_parts-requires
unfolding language_fields
ink_language_parts-requires c = moved (fields_ready _ c.requires).5 refl refl (search rules)

pub shape_of-out : goal.shape_of-out
unfolding language_fields
shape_of-out c = search rules

pub returns : goal.returns
unfolding language_fields
returns c = pair_inked (only_inked (bytes_inked 3 c.copy.ensures (omega arith) (omega arith)) _)
    (pair_inked (numeral_inked character_set_lem c.number.ensures (omega arith) (omega arith)) c.ink_language_parts.ensures)
