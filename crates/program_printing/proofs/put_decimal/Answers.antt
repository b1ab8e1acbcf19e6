-- `program_printing::put_decimal` meets its contract: it puts as many digits as the number has.
use native.Mathlib.Omega.{arith}
use Rattle.program_printing.specs.Characters.{places_of}
use Rattle.program_printing.proofs.Digits.{digits_length}
use Rattle.program_printing.proofs.put_decimal.Goals as goal

pub put_digits-requires : goal.put_digits-requires
put_digits-requires c = let n = c.args.number in
    omega (arith, digits_length 10 (places_of n) n, c.places.ensures)

pub returns : goal.returns
returns c = rw c.places.ensures at c.put_digits.ensures
