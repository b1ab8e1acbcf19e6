-- `content_writer::inking::ink_languages` meets its contract: their count, and as many of them as it says.
use mathlib.Core.Path.{refl}
use native.Mathlib.Omega.{arith}
use borrow.Author.Rules.{rules}
use Rattle.body_ink.proofs.Pairs.{moved}
use Rattle.body_ink.proofs.Numbers.{numeral_inked}
use Rattle.body_ink.proofs.Lists.{list_ready, list_inked, times_start, times_next, times_turn, times_done}
use Rattle.content_writer.proofs.Inkings.{languages_count, count_ready}
use Rattle.content_writer.proofs.inking.ink_languages.Goals as goal

pub offset_bounds-tape-k : goal.offset_bounds-tape-k
offset_bounds-tape-k c = omega (arith, count_ready 1 5 _ c.requires)

pub bounds-tape-k : goal.bounds-tape-k
bounds-tape-k c = omega (arith, count_ready 1 5 _ c.requires)

pub overflow_add-n : goal.overflow_add-n
overflow_add-n c = omega (arith, count_ready 1 5 _ c.requires)

pub number-requires : goal.number-requires
number-requires c = omega (arith, count_ready 1 5 _ c.requires)

pub overflow_add-past : goal.overflow_add-past
overflow_add-past c = omega (arith, count_ready 1 5 _ c.requires)

pub overflow_add-past-2 : goal.overflow_add-past-2
overflow_add-past-2 c = omega (arith, count_ready 1 5 _ c.requires)

pub loop-init : goal.loop-init
loop-init c = times_start (moved (list_ready languages_count _ c.requires) refl refl (search rules))

pub ink_language-past-requires : goal.ink_language-past-requires
ink_language-past-requires c = times_next c.loop.invariant c.loop-test.true

pub loop-preserved : goal.loop-preserved
loop-preserved c = times_turn c.loop.invariant c.loop-test.true c.ink_language-past.ensures

pub returns : goal.returns
returns c = list_inked languages_count _ (numeral_inked languages_count c.number.ensures refl refl) (times_done c.loop.invariant c.loop-test.false)
