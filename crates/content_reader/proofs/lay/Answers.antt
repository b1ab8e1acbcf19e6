-- `content_reader::lay` meets its contract: a body that is not opened is refused, a dry walk says how many entries there are or why there are none, and a wet one lays them.
use mathlib.Core.Path.{sym, ◌∙◌}
use native.Mathlib.Omega.{arith}
use Rattle.ground_refusal.proofs.Exits.{passed_on}
use Rattle.body_walk.proofs.Bodies.{lay_no, lay_all}
use Rattle.content_variant.proofs.Variant.{opened_most}
use Rattle.content.proofs.Variants.{is_opened, laid_wide, tape_wide, laid_no, tape_no}
use Rattle.content_reader.proofs.lay.Goals as goal

pub walk_content-dry-requires : goal.walk_content-dry-requires
walk_content-dry-requires c = omega (arith, opened_most _ _ _ _ (sym c.in_ok-w.was ∙ c.open.ensures))

pub walk_content-requires : goal.walk_content-requires
walk_content-requires c = omega (arith, opened_most _ _ _ _ (sym c.in_ok-w.was ∙ c.open.ensures))

pub returns-in_err-w : goal.returns-in_err-w
returns-in_err-w c = let no = sym c.in_err-w.was ∙ c.open.ensures in
    record { said = passed_on c.from_residual.ensures ∙ laid_no _ _ _ _ no _; left = tape_no _ _ _ _ no _ }

pub returns-in_err-n : goal.returns-in_err-n
returns-in_err-n c = let width = sym c.in_ok-w.was ∙ c.open.ensures in
    let w = lay_no _ _ (is_opened _ _ _ _ width) c.walk_content-dry.ensures
    (sym c.in_err-n.was ∙ c.entries_needed.ensures) c.from_residual-in_err-n.ensures in
    record { said = w.said ∙ laid_wide _ _ _ _ width _; left = w.left ∙ tape_wide _ _ _ _ width _ }

pub returns : goal.returns
returns c = let width = sym c.in_ok-w.was ∙ c.open.ensures in
    let w = lay_all _ _ (is_opened _ _ _ _ width) c.walk_content-dry.ensures
    (sym c.in_ok-n.was ∙ c.entries_needed.ensures) (λ i. (c.type_inv.s i).fits) c.walk_content.ensures in
    record { said = w.said ∙ laid_wide _ _ _ _ width _; left = w.left ∙ tape_wide _ _ _ _ width _ }
