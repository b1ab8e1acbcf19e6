-- `body_ink::digits` meets its contract: the first byte is written with its reserved bits set, and after it the other bytes of the pool.
use Prim.Native.Nat.{◌+◌, ◌%◌}
use mathlib.Core.Path.{ap}
use native.Mathlib.Omega.{arith}
use Rattle.body_ink.proofs.Strings.{digits_ready, digits_inked}
use Rattle.body_ink.proofs.digits.Goals as goal

pub offset_bounds-tape-k : goal.offset_bounds-tape-k
offset_bounds-tape-k c = omega (arith, digits_ready _ c.requires)

pub bounds-tape-k : goal.bounds-tape-k
bounds-tape-k c = omega (arith, digits_ready _ c.requires)

pub bounds-pool-a : goal.bounds-pool-a
bounds-pool-a c = omega (arith, digits_ready _ c.requires)

pub number-requires : goal.number-requires
number-requires c = omega (arith, digits_ready _ c.requires)

pub overflow_add-a : goal.overflow_add-a
overflow_add-a c = omega (arith, digits_ready _ c.requires)

pub overflow_add-at : goal.overflow_add-at
overflow_add-at c = omega (arith, digits_ready _ c.requires)

pub copy-requires : goal.copy-requires
copy-requires c = let r = digits_ready _ c.requires in (omega arith, omega arith)

pub returns : goal.returns
returns c = digits_inked _ (ap (λ b. 240 + b % 16) c.wide.ensures.0) c.number.ensures c.copy.ensures
