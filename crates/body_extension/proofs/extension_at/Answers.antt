-- `extension_at` meets its contract: where the identifier can be read, the 18 bytes from p on are its own.
use mathlib.Core.Path.{sym, ◌∙◌}
use native.Mathlib.Omega.{arith}
use borrow.Author.Rules.{rules}
use Rattle.ground_refusal.proofs.Exits.{passed_on}
use Rattle.body_extension.proofs.Answers.{extension_no, identifier_there, extension_is}
use Rattle.body_extension.proofs.extension_at.Goals as goal

pub overflow_add-q : goal.overflow_add-q
overflow_add-q c = omega (arith, identifier_there _ _ _ (λ i. (c.type_inv.s i).fits) _ _ (sym c.in_ok-a.was ∙ c.read_identifier.ensures))

pub slice_bounds-crc16_after_four-end : goal.slice_bounds-crc16_after_four-end
slice_bounds-crc16_after_four-end c = omega (arith, identifier_there _ _ _ (λ i. (c.type_inv.s i).fits) _ _ (sym c.in_ok-a.was ∙ c.read_identifier.ensures))

pub returns-in_err-a : goal.returns-in_err-a
returns-in_err-a c = passed_on c.from_residual.ensures ∙ extension_no _ _ _ _ (sym c.in_err-a.was ∙ c.read_identifier.ensures)

pub returns : goal.returns
returns c = extension_is _ _ _ (λ i. (c.type_inv.s i).fits) _ _ (sym c.in_ok-a.was ∙ c.read_identifier.ensures)
    _ (search rules) c.crc16_after_four.ensures
