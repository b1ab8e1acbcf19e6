-- `content_reader::read` meets its contract: a body that is not opened is refused, one that a glance takes for good is good, of any other a dry
-- walk tells, and the extension is looked at last.
use mathlib.Core.Path.{◌≡◌, sym, ap, ◌∙◌}
use Rattle.std.specs.Prelude.{Ok}
use native.Mathlib.Omega.{arith}
use Rattle.ground_refusal.proofs.Exits.{passed_on}
use Rattle.body_formats.specs.Body.{body_read}
use Rattle.body_glance.proofs.Finds.{read_filled}
use Rattle.body_walk.proofs.Bodies.{read_walked}
use Rattle.content_variant.proofs.Variant.{opened_most}
use Rattle.content.specs.Content.{content_kind, content}
use Rattle.content.proofs.Extension.{refused_before, identifier_there, other_extension, same_extension}
use Rattle.content.proofs.Variants.{is_opened, read_wide, read_no}
use Rattle.content_reader.proofs.Glances.{opened_least}
use Rattle.content_reader.proofs.read.Goals.{Joined-good_content, then-good_content, else-good_content+in_ok-end}
use Rattle.content_reader.proofs.read.Goals as goal

-- a body that is not refused is good but for its extension
good : (c : Joined-good_content) → Ok c.if-good_content.end ≡ body_read (content c.in_ok-w.w) content_kind c.args.kind c.args.s.now
good c = let from = is_opened _ _ _ _ (sym c.in_ok-w.was ∙ c.open.ensures) in
    elim c.if-good_content.branch [
      | then-good_content w ↦ ap Ok w.end-is ∙ read_filled _ _ from (c.good_content.ensures w.if-good_content.true)
      | else-good_content+in_ok-end w ↦ ap Ok w.end-is ∙ read_walked _ _ from w.walk_content.ensures (sym w.in_ok-end.was ∙ w.body_end.ensures)
    ]

pub returns-in_err-w : goal.returns-in_err-w
returns-in_err-w c = passed_on c.from_residual.ensures ∙ read_no _ _ _ _ (sym c.in_err-w.was ∙ c.open.ensures) _

pub good_content-requires : goal.good_content-requires
good_content-requires c = let width = sym c.in_ok-w.was ∙ c.open.ensures in (opened_least _ _ _ _ width, opened_most _ _ _ _ width)

pub walk_content-requires : goal.walk_content-requires
walk_content-requires c = omega (arith, opened_most _ _ _ _ (sym c.in_ok-w.was ∙ c.open.ensures))

pub returns-in_err-end : goal.returns-in_err-end
returns-in_err-end c = let width = sym c.in_ok-w.was ∙ c.open.ensures in
    passed_on c.from_residual-in_err-end.ensures ∙ refused_before _ _ _ _ _
    (read_walked _ _ (is_opened _ _ _ _ width) c.walk_content.ensures (sym c.in_err-end.was ∙ c.body_end.ensures))
    ∙ read_wide _ _ _ _ width _

pub slice_bounds-crc16_after_four-end : goal.slice_bounds-crc16_after_four-end
slice_bounds-crc16_after_four-end c = let j = (goal.at.slice_bounds-crc16_after_four-end c).Joined-good_content in
    identifier_there _ _ _ (λ i. (c.type_inv.s i).fits) _ (good j)

pub returns-then-crc16_after_four-extension : goal.returns-then-crc16_after_four-extension
returns-then-crc16_after_four-extension c = let j = (goal.at.returns-then-crc16_after_four-extension c).Joined-good_content in
    other_extension _ _ _ (λ i. (c.type_inv.s i).fits) _ (good j) _ _ c.crc16_after_four.ensures c.if-crc16_after_four-extension.true
    ∙ read_wide _ _ _ _ (sym c.in_ok-w.was ∙ c.open.ensures) _

pub returns : goal.returns
returns c = let j = (goal.at.returns c).Joined-good_content in
    same_extension _ _ _ (λ i. (c.type_inv.s i).fits) _ (good j) _ _ c.crc16_after_four.ensures (omega arith)
    ∙ read_wide _ _ _ _ (sym c.in_ok-w.was ∙ c.open.ensures) _
