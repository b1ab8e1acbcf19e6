-- `configuration_writer::inking::ink_other` meets its contract: the bytes of the pool.
use mathlib.Core.Path.{refl}
use native.Mathlib.Omega.{arith}
use borrow.Author.Rules.{rules}
use Rattle.body_ink.proofs.Strings.{rest_ready, rest_inked}
use Rattle.configuration.specs.Configuration.{said}
use Rattle.configuration_writer.proofs.inking.ink_other.Goals as goal

pub overflow_add-n : goal.overflow_add-n
unfolding said
overflow_add-n c = omega (arith, rest_ready c.requires)

pub offset_bounds-tape-k : goal.offset_bounds-tape-k
unfolding said
offset_bounds-tape-k c = omega (arith, rest_ready c.requires)

pub bounds-tape-k : goal.bounds-tape-k
unfolding said
bounds-tape-k c = omega (arith, rest_ready c.requires)

pub offset_bounds-tape-k-2 : goal.offset_bounds-tape-k-2
unfolding said
offset_bounds-tape-k-2 c = omega (arith, rest_ready c.requires)

pub bounds-tape-k-2 : goal.bounds-tape-k-2
unfolding said
bounds-tape-k-2 c = omega (arith, rest_ready c.requires)

pub copy-requires : goal.copy-requires
unfolding said
copy-requires c = let r = rest_ready c.requires in (omega arith, omega arith)

pub overflow_add-result : goal.overflow_add-result
unfolding said
overflow_add-result c = omega (arith, rest_ready c.requires)

pub overflow_add-result-2 : goal.overflow_add-result-2
unfolding said
overflow_add-result-2 c = omega (arith, rest_ready c.requires)

pub shape_of-out : goal.shape_of-out
unfolding said
shape_of-out c = search rules

pub returns : goal.returns
unfolding said
returns c = rest_inked c.copy.ensures refl refl
