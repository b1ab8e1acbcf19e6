-- `content_fields::auxiliary` meets its contract: another variant is refused, and a named one asks with its width.
use mathlib.Core.Path.{sym, ◌∙◌}
use Rattle.ground_refusal.proofs.Exits.{passed_on}
use Rattle.content_variant.proofs.Variant.{width_most}
use Rattle.content_fields.proofs.Answers.{variant_part_no, variant_part_is}
use Rattle.content_fields.proofs.Glance.{width_least}
use Rattle.content_fields.proofs.auxiliary.Goals as goal

pub part_wide-requires : goal.part_wide-requires
part_wide-requires c = let width = sym c.in_ok-w.was ∙ c.width_of.ensures in
    (width_least _ _ width, width_most _ _ width)

pub returns-in_err-w : goal.returns-in_err-w
returns-in_err-w c = passed_on c.from_residual.ensures ∙ variant_part_no _ _ (sym c.in_err-w.was ∙ c.width_of.ensures) _ _ _ _

pub returns : goal.returns
returns c = c.part_wide.ensures ∙ variant_part_is _ _ (sym c.in_ok-w.was ∙ c.width_of.ensures) _ _ _ _
