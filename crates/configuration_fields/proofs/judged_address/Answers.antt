-- `configuration_fields::judged_address` meets its contract: its length is judged before its bytes.
use mathlib.Core.Path.{sym, ◌∙◌}
use Rattle.ground_refusal.proofs.Exits.{passed_on}
use Rattle.body_formats.proofs.Readers.{part_facts}
use Rattle.configuration_fields.proofs.Answers.{address_no, address_length_lem, address_bad, address_is}
use native.Mathlib.Omega.{arith}
use borrow.Author.Tests.{not-true, not-false}
use Rattle.configuration_fields.proofs.judged_address.Goals as goal

pub returns-then-not-length_fits : goal.returns-then-not-length_fits
returns-then-not-length_fits c = address_length_lem _ (λ i. (c.type_inv.s i).fits) _ _ _ _ _ (sym c.in_ok-a.was ∙ c.read_part.ensures)
    (sym c.length_fits.ensures ∙ not-true _ c.if-not-length_fits.true-raw)

pub is_address-requires : goal.is_address-requires
is_address-requires c = omega (arith, part_facts _ _ _ _ _ _ (sym c.in_ok-a.was ∙ c.read_part.ensures))

pub returns-then-is_address : goal.returns-then-is_address
returns-then-is_address c = address_is _ (λ i. (c.type_inv.s i).fits) _ _ _ _ _ (sym c.in_ok-a.was ∙ c.read_part.ensures)
    (sym c.length_fits.ensures ∙ not-false _ c.if-not-length_fits.false-raw) (sym c.is_address.ensures ∙ c.if-is_address.true)

pub returns-in_err-a : goal.returns-in_err-a
returns-in_err-a c = passed_on c.from_residual.ensures ∙ address_no _ (λ i. (c.type_inv.s i).fits) _ _ _ _ (sym c.in_err-a.was ∙ c.read_part.ensures)

pub returns : goal.returns
returns c = address_bad _ (λ i. (c.type_inv.s i).fits) _ _ _ _ _ (sym c.in_ok-a.was ∙ c.read_part.ensures)
    (sym c.length_fits.ensures ∙ not-false _ c.if-not-length_fits.false-raw) (sym c.is_address.ensures ∙ c.if-is_address.false)
