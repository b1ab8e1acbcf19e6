-- `program_printing::put_digits` meets its contract: what stands, with the digits that are left placed on it, stays the same.
use Prim.Native.Nat.{◌-◌}
use mathlib.Core.Path.{◌≡◌}
use lib.ListN.{length}
use Rattle.program_printing.specs.Characters.{digits_of}
use Rattle.ground_placing.specs.Placed.{placed}
use Rattle.program_printing.proofs.put_digits.Given as goal

abbrev pub invariant-loop-i : goal.invariant-loop-i
invariant-loop-i l =
    (length l.out ≡ length l.initial.out) × (placed l.out l.at (digits_of l.base (l.width - l.i) l.rest) ≡ placed l.initial.out l.at (digits_of l.base l.width l.number))
