-- `content_writer::write` meets its contract: another variant is refused, and a named one writes with its width.
use mathlib.Core.Path.{sym, ◌∙◌}
use native.Mathlib.Omega.{arith}
use Rattle.ground_refusal.proofs.Exits.{passed_on}
use Rattle.content_variant.proofs.Variant.{width_most}
use Rattle.content_writer.proofs.Variants.{written_no, output_no, written_wide, output_wide}
use Rattle.content_writer.proofs.write.Goals as goal

pub returns-in_err-w : goal.returns-in_err-w
returns-in_err-w c = let no = sym c.in_err-w.was ∙ c.width_of.ensures in
    record { said = passed_on c.from_residual.ensures ∙ written_no _ _ no _ _ _; left = output_no _ _ no _ _ _ }

pub write_wide-requires : goal.write_wide-requires
write_wide-requires c = omega (arith, width_most _ _ (sym c.in_ok-w.was ∙ c.width_of.ensures))

pub returns : goal.returns
returns c = let width = sym c.in_ok-w.was ∙ c.width_of.ensures in
    record { said = c.write_wide.ensures.said ∙ written_wide _ _ width _ _ _; left = c.write_wide.ensures.left ∙ output_wide _ _ width _ _ _ }
