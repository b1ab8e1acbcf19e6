-- `body_parts::listed_part` meets its contract: the part is there if the count is above i.
use mathlib.Core.Path.{sym, ◌∙◌}
use Rattle.ground_refusal.proofs.Exits.{passed_on}
use Rattle.body_formats.proofs.Readers.{listed_no, listed_none, listed_part}
use native.Mathlib.Omega.{arith}
use Rattle.body_parts.proofs.listed_part.Goals as goal

pub returns-then-i-n : goal.returns-then-i-n
returns-then-i-n c = c.part_after.ensures ∙ listed_part _ _ _ _ _ _ _ _ (sym c.in_ok-n.was ∙ c.read_number.ensures) (omega arith)

pub returns-in_err-n : goal.returns-in_err-n
returns-in_err-n c = passed_on c.from_residual.ensures ∙ listed_no _ _ _ _ _ _ _ (sym c.in_err-n.was ∙ c.read_number.ensures)

pub returns : goal.returns
returns c = listed_none _ _ _ _ _ _ _ _ (sym c.in_ok-n.was ∙ c.read_number.ensures) (omega arith)
