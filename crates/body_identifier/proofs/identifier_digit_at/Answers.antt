-- `body_identifier::identifier_digit_at` meets its contract: the digits that are read stand in the bytes of the part.
use mathlib.Core.Path.{sym, ◌∙◌}
use Rattle.ground_refusal.proofs.Exits.{passed_on}
use Rattle.body_formats.specs.Identifier.{identifier}
use Rattle.body_formats.proofs.Strings.{digit_no}
use Rattle.body_formats.proofs.Identifiers.{identifier_each}
use Rattle.body_identifier.proofs.identifier_digit_at.Goals as goal

pub digit_of-requires : goal.digit_of-requires
digit_of-requires c = (identifier_each _ _ _ _ _ (λ i. (c.type_inv.s i).fits) (sym c.in_ok-a.was ∙ c.read_identifier.ensures)).0

pub returns-in_err-a : goal.returns-in_err-a
returns-in_err-a c = passed_on c.from_residual.ensures ∙ digit_no identifier _ _ _ _ _ (sym c.in_err-a.was ∙ c.read_identifier.ensures)

pub returns : goal.returns
returns c = c.digit_of.ensures
    ∙ (identifier_each _ _ _ _ _ (λ i. (c.type_inv.s i).fits) (sym c.in_ok-a.was ∙ c.read_identifier.ensures)).1 _
