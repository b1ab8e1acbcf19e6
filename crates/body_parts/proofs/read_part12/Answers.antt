-- `body_parts::read_part12` meets its contract: it reads the length after its reserved bits, and then the part that its low ten bits count.
use mathlib.Core.Path.{sym, ◌∙◌}
use Rattle.ground_refusal.proofs.Exits.{passed_on}
use Rattle.body_formats.proofs.Bits.{reserved_inside, part12_no, part12_is}
use Rattle.body_parts.proofs.read_part12.Goals as goal

pub part_from-requires : goal.part_from-requires
part_from-requires c = reserved_inside _ _ _ _ _ _ _ (sym c.in_ok-n.was ∙ c.read_reserved.ensures)

pub returns-in_err-n : goal.returns-in_err-n
returns-in_err-n c = passed_on c.from_residual.ensures ∙ part12_no _ _ _ _ (sym c.in_err-n.was ∙ c.read_reserved.ensures)

pub returns : goal.returns
returns c = c.part_from.ensures ∙ part12_is _ _ _ _ _ (sym c.in_ok-n.was ∙ c.read_reserved.ensures)
