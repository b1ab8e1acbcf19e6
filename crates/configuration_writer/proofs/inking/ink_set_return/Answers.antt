-- `configuration_writer::inking::ink_set_return` meets its contract: its kind, the address and the terminals one after the other.
use lib.ListN.{get_or}
use mathlib.Core.Path.{refl}
use native.Mathlib.Omega.{arith}
use borrow.Author.Rules.{rules}
use Rattle.body_formats.specs.Format.{◌▷◌}
use Rattle.ground_refusal.specs.declared.Refusal.TheVariants.{PastPart}
use Rattle.body_ink.proofs.Pairs.{moved, ended, first, second, pair_inked, exact_inked}
use Rattle.body_ink.proofs.Numbers.{numeral_inked, number_then}
use Rattle.body_ink.proofs.Strings.{part_ready}
use Rattle.configuration.specs.Configuration.{terminals, address, said}
use Rattle.configuration_writer.proofs.Inkings.{a_kind, return_ready, address_ready, address_inked}
use Rattle.configuration_writer.proofs.inking.ink_set_return.Goals as goal

pub offset_bounds-tape-k : goal.offset_bounds-tape-k
unfolding said terminals
offset_bounds-tape-k c = omega (arith, return_ready c.requires)

pub bounds-tape-k : goal.bounds-tape-k
unfolding said terminals
bounds-tape-k c = omega (arith, return_ready c.requires)

pub number-requires : goal.number-requires
unfolding said terminals
number-requires c = omega (arith, return_ready c.requires)

pub overflow_add-k : goal.overflow_add-k
unfolding said terminals
overflow_add-k c = omega (arith, return_ready c.requires)

pub overflow_add-at : goal.overflow_add-at
unfolding said terminals
overflow_add-at c = omega (arith, return_ready c.requires)

pub part-past-requires : goal.part-past-requires
unfolding said terminals
part-past-requires c = address_ready _ (moved (first _ _ (return_ready c.requires).3) refl refl (search rules))

pub overflow_add-k-2 : goal.overflow_add-k-2
unfolding said terminals
overflow_add-k-2 c = omega (arith, part_ready 1 (address_ready _ (first _ _ (return_ready c.requires).3)))

pub resources-requires : goal.resources-requires
unfolding said terminals
resources-requires c = moved (second (address_inked (get_or c.args.tape.now c.args.k 0) c.part-past.ensures)
    (moved (return_ready c.requires).3 refl refl (search rules))) refl (omega arith) refl

pub shape_of-out : goal.shape_of-out
unfolding said terminals
shape_of-out c = search rules

pub returns : goal.returns
unfolding said terminals
returns c = exact_inked (number_then a_kind (λ kind. address kind ▷ terminals) (numeral_inked a_kind c.number.ensures refl refl)
    (pair_inked (address_inked _ (ended c.part-past.ensures refl (omega arith))) c.resources.ensures)) PastPart
