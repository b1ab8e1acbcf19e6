-- `body_parts::part_after` meets its contract: the part after i others stands where these end.
use mathlib.Core.Path.{sym, ◌∙◌}
use Rattle.ground_refusal.proofs.Exits.{passed_on}
use Rattle.body_formats.proofs.Readers.{part_past, part_none}
use Rattle.body_parts.proofs.part_after.Goals as goal

pub returns-in_err-q : goal.returns-in_err-q
returns-in_err-q c = passed_on c.from_residual.ensures ∙ part_none _ _ _ _ _ _ (sym c.in_err-q.was ∙ c.skip_parts.ensures)

pub returns : goal.returns
returns c = c.read_part.ensures ∙ part_past _ _ _ _ _ _ (sym c.in_ok-q.was ∙ c.skip_parts.ensures)
