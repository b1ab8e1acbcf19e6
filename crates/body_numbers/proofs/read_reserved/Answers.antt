-- `body_numbers::read_reserved` meets its contract: the first byte, its high bits and the whole field are read in the order of the format.
use mathlib.Core.Path.{sym, ◌∙◌}
use lib.Pow.{pow_pos}
use Rattle.ground_refusal.proofs.Exits.{passed_on}
use Rattle.body_formats.proofs.Bits.{reserved_no, reserved_zero, reserved_past, reserved_is}
use native.Mathlib.Omega.{arith}
use Rattle.body_numbers.proofs.read_reserved.Goals as goal

pub overflow_sub-power : goal.overflow_sub-power
overflow_sub-power c = omega (arith, c.power.ensures, pow_pos c.args.k)

pub returns-then-first-bits : goal.returns-then-first-bits
returns-then-first-bits c = reserved_zero _ _ _ _ _ _ _ (sym c.in_ok-first.was ∙ c.read_number.ensures)
    (rw (← c.power.ensures) c.if-first-bits.true)

pub nonzero_rem-result : goal.nonzero_rem-result
nonzero_rem-result c = rw c.power-2.ensures (pow_pos _)

pub returns-in_err-first : goal.returns-in_err-first
returns-in_err-first c = passed_on c.from_residual.ensures ∙ reserved_no _ _ _ _ _ _ (sym c.in_err-first.was ∙ c.read_number.ensures)

pub returns-in_err-v : goal.returns-in_err-v
returns-in_err-v c = passed_on c.from_residual-in_err-v.ensures ∙ reserved_past _ _ _ _ _ _ _ (sym c.in_ok-first.was ∙ c.read_number.ensures)
    (rw (← c.power.ensures) c.if-first-bits.false) _ (sym c.in_err-v.was ∙ c.read_number-2.ensures)

pub returns : goal.returns
returns c = rw c.power-2.ensures (reserved_is _ _ _ _ _ _ _ (sym c.in_ok-first.was ∙ c.read_number.ensures)
    (rw (← c.power.ensures) c.if-first-bits.false) _ _ (sym c.in_ok-v.was ∙ c.read_number-2.ensures))
