-- `body_ink::part` meets its contract: the length is written, and after it the bytes of the pool.
use mathlib.Core.Path.{refl}
use native.Mathlib.Omega.{arith}
use Rattle.body_ink.proofs.Strings.{part_ready, part_inked}
use Rattle.body_ink.proofs.part.Goals as goal

pub overflow_add-n : goal.overflow_add-n
overflow_add-n c = omega (arith, part_ready _ c.requires)

pub offset_bounds-tape-k : goal.offset_bounds-tape-k
offset_bounds-tape-k c = omega (arith, part_ready _ c.requires)

pub bounds-tape-k : goal.bounds-tape-k
bounds-tape-k c = omega (arith, part_ready _ c.requires)

pub number-requires : goal.number-requires
number-requires c = omega (arith, part_ready _ c.requires)

pub offset_bounds-tape-k-2 : goal.offset_bounds-tape-k-2
offset_bounds-tape-k-2 c = omega (arith, part_ready _ c.requires)

pub bounds-tape-k-2 : goal.bounds-tape-k-2
bounds-tape-k-2 c = omega (arith, part_ready _ c.requires)

pub overflow_add-at : goal.overflow_add-at
overflow_add-at c = omega (arith, part_ready _ c.requires)

pub copy-requires : goal.copy-requires
copy-requires c = let r = part_ready _ c.requires in (omega arith, omega arith)

pub overflow_add-result : goal.overflow_add-result
overflow_add-result c = omega (arith, part_ready _ c.requires)

pub overflow_add-result-2 : goal.overflow_add-result-2
overflow_add-result-2 c = omega (arith, part_ready _ c.requires)

pub returns : goal.returns
returns c = part_inked _ c.number.ensures c.copy.ensures refl refl
