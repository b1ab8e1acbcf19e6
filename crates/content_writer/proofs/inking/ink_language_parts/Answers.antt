-- `content_writer::inking::ink_language_parts` meets its contract: one after the other.
use mathlib.Core.Path.{refl}
use native.Mathlib.Omega.{arith}
use Rattle.body_ink.proofs.Pairs.{moved, ended, first, second, pair_inked}
use Rattle.body_ink.proofs.Strings.{part_ready}
use Rattle.content_writer.proofs.inking.ink_language_parts.Goals as goal

pub part-text-requires : goal.part-text-requires
part-text-requires c = first _ _ c.requires

pub overflow_add-k : goal.overflow_add-k
overflow_add-k c = omega (arith, part_ready 2 (first _ _ c.requires))

pub part-agency-requires : goal.part-agency-requires
part-agency-requires c = first _ _ (second c.part-text.ensures c.requires)

pub overflow_add-k-2 : goal.overflow_add-k-2
overflow_add-k-2 c = omega (arith, part_ready 1 (first _ _ (second c.part-text.ensures c.requires)))

pub ink_auxiliaries-requires : goal.ink_auxiliaries-requires
ink_auxiliaries-requires c = moved (second c.part-agency.ensures (second c.part-text.ensures c.requires)) refl (omega arith) refl

pub returns : goal.returns
returns c = pair_inked c.part-text.ensures (pair_inked (ended c.part-agency.ensures refl (omega arith)) c.ink_auxiliaries.ensures)
