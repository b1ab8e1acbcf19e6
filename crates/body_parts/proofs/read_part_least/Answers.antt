-- `body_parts::read_part_least` meets its contract: it reads the length, and then the part that this counts.
use mathlib.Core.Path.{sym, ◌∙◌}
use Rattle.ground_refusal.proofs.Exits.{passed_on}
use Rattle.body_formats.proofs.Readers.{number_facts, least_no, least_is}
use Rattle.body_parts.proofs.read_part_least.Goals as goal

pub part_from-requires : goal.part_from-requires
part_from-requires c = (number_facts _ _ _ _ _ _ (λ i. (c.type_inv.s i).fits)
    (sym c.in_ok-n.was ∙ c.read_number.ensures)).0

pub returns-in_err-n : goal.returns-in_err-n
returns-in_err-n c = passed_on c.from_residual.ensures ∙ least_no _ _ _ _ _ _ (sym c.in_err-n.was ∙ c.read_number.ensures)

pub returns : goal.returns
returns c = c.part_from.ensures ∙ least_is _ _ _ _ _ _ _ (λ i. (c.type_inv.s i).fits)
    (sym c.in_ok-n.was ∙ c.read_number.ensures)
