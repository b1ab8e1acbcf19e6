-- `content_writer::measure` meets its contract: another variant is refused, and a named one measures with its width.
use mathlib.Core.Path.{sym, ◌∙◌}
use native.Mathlib.Omega.{arith}
use Rattle.ground_refusal.proofs.Exits.{passed_on}
use Rattle.content_variant.proofs.Variant.{width_most}
use Rattle.content_writer.proofs.Variants.{measured_no, measured_wide}
use Rattle.content_writer.proofs.measure.Goals as goal

pub returns-in_err-w : goal.returns-in_err-w
returns-in_err-w c = passed_on c.from_residual.ensures ∙ measured_no _ _ (sym c.in_err-w.was ∙ c.width_of.ensures) _ _

pub measure_wide-requires : goal.measure_wide-requires
measure_wide-requires c = omega (arith, width_most _ _ (sym c.in_ok-w.was ∙ c.width_of.ensures))

pub returns : goal.returns
returns c = c.measure_wide.ensures ∙ measured_wide _ _ (sym c.in_ok-w.was ∙ c.width_of.ensures) _ _
